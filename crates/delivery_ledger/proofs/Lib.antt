pub mod Blocks
pub mod Fronts
pub mod Charged
pub mod OverRestarts
pub mod OverCrashes
pub mod Lists
