pub mod Windows
pub mod Messages
pub mod Numbers
pub mod Equality
