pub mod Numbers
pub mod CardEndNumbers
pub mod Replies
