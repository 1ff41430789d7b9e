pub mod Accepting
pub mod Reaching
pub mod Restarting
pub mod Demand
pub mod Base
pub mod Computing
pub mod Worked
pub mod Wrong
