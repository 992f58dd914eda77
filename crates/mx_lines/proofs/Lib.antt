pub mod Pieces
pub mod Lines
pub mod Newlines
pub mod Held
pub mod Counting
