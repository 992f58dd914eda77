pub mod CountLemmas
pub mod GroupLemmas
pub mod ListingLemmas
pub mod NoteLemmas
