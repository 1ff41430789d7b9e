pub mod PerCard
pub mod Bill
pub mod Restarts
pub mod OverRestarts
pub mod WholeTable
