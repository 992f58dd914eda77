pub mod TextLists
