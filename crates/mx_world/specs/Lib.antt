pub mod Mirror
pub mod Instants
pub mod State
pub mod Turns
