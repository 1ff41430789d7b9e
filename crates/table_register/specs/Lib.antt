pub mod TableChanging
pub mod TableAdopting
