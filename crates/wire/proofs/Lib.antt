pub mod Format
pub mod Reading
pub mod RoundTrip
pub mod Building
