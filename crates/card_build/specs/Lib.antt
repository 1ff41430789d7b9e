pub mod Numbering
pub mod Building
