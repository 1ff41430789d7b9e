pub mod HostStep
pub mod HostFrame
pub mod HostArrive
pub mod Receive
