pub mod Cutting
pub mod Holding
pub mod Whole
pub mod Sums
pub mod Fragments
pub mod Most
