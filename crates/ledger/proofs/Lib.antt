pub mod Answers
pub mod Steps
pub mod Accounts
pub mod Read
pub mod Counted
pub mod Worked
