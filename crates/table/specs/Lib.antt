pub mod Table
pub mod Reachable
pub mod Adopting
pub mod Reopening
pub mod TableEnd
pub mod Calls
pub mod Isolation
pub mod WrongTables
