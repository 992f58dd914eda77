pub mod Files
pub mod Delta
pub mod Said
