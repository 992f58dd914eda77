pub mod Written
pub mod Grouping
pub mod Made
pub mod Making
pub mod Changes
