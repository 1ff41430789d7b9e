pub mod InPlace
pub mod Writing
