pub mod Examples
pub mod BothWays
