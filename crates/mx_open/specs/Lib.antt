pub mod Init
pub mod Deciding
pub mod Opening
pub mod Leaving
