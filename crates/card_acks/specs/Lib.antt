pub mod Covering
pub mod Finishing
