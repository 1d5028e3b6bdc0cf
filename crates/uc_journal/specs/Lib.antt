pub mod Journal
pub mod Reaches
pub mod Refused
pub mod Text
