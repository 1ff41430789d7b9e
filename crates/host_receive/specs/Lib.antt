pub mod Counting
pub mod Applying
pub mod Judging
pub mod Validating
pub mod Keeping
pub mod Refusing
pub mod Numbering
pub mod Receiving
