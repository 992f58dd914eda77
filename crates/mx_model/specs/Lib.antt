pub mod Timeline
pub mod Listing
pub mod Maps
pub mod Answer
