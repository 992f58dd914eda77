pub mod Config
pub mod Lines
pub mod Version
pub mod Reading
