pub mod Check
pub mod Watched
pub mod TwoCards
pub mod Homes
pub mod Wrong
