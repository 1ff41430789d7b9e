pub mod Restarts
pub mod OverRestarts
pub mod WrongStores
