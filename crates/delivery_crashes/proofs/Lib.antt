pub mod Computing
pub mod AtOnce
pub mod Crashed
pub mod Standing
pub mod Demand
pub mod NoCrash
pub mod Worked
pub mod Wrong
