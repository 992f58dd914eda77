pub mod Rules
pub mod Encoding
pub mod Decoding
pub mod Union
