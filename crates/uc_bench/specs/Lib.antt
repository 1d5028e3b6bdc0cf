pub mod Answers
pub mod Ordinary
pub mod Requests
