pub mod Finding
pub mod Layout
