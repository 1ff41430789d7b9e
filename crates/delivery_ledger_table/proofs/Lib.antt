pub mod PerCard
pub mod Together
pub mod OneCardEach
pub mod Lists
