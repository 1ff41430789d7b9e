pub mod Laws
pub mod Indexing
