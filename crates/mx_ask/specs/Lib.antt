pub mod Rows
pub mod Asks
pub mod Replies
