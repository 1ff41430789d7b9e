pub mod Room
pub mod Loops
pub mod Holding
pub mod Telling
pub mod Adding
pub mod Taking
