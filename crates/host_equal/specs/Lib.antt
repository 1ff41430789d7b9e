pub mod Described
pub mod Sequences
