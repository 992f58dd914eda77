pub mod Shown
pub mod Merged
pub mod Said
