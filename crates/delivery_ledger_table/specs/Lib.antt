pub mod PerCard
pub mod Together
pub mod OneCardEach
