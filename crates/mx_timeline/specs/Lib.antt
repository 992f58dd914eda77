pub mod Timeline
pub mod Stages
pub mod Keeping
