pub mod InPlace
pub mod Limits
