pub mod Examples
pub mod Opens
pub mod OneText
pub mod Reached
pub mod Length
