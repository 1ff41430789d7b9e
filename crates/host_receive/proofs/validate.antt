pub mod Alike
pub mod Walk
pub mod Overlay
