pub mod TableWords
pub mod TableDescribing
