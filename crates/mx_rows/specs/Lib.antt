pub mod Checks
pub mod Filled
pub mod Found
