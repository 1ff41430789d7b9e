pub mod Filling
pub mod Receiving
pub mod Holding
pub mod Alike
pub mod Worked
