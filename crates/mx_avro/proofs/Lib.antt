pub mod Groups
pub mod Loop
pub mod Longs
