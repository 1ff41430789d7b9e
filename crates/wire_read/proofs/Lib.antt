pub mod Finding
pub mod Parts
