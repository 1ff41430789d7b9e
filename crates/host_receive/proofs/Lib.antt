pub mod Passes
pub mod Awaiting
