pub mod Types
pub mod Grammar
pub mod Encoding
pub mod Decoding
