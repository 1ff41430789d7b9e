pub mod Fields
pub mod Line
pub mod Taking
pub mod Walking
pub mod Pairs
