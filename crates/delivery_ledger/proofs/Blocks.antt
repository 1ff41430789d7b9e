pub mod Bytes
pub mod InBook
pub mod Parts
pub mod Taking
