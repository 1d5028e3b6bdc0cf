pub mod Bytes
pub mod Front
pub mod Opening
pub mod Refusals
pub mod Scan
pub mod Steps
pub mod Unique
