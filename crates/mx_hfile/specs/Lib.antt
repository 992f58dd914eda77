pub mod Encoding
pub mod Division
pub mod Decoding
pub mod Seen
pub mod Ranges
pub mod Held
pub mod Found
