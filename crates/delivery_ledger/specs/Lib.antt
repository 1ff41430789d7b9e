pub mod Blocks
pub mod Charged
pub mod OverRestarts
pub mod OverCrashes
