pub mod Recovering
pub mod Planning
