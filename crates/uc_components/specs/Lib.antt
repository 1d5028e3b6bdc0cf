pub mod Links
pub mod Order
pub mod Rows
pub mod Searched
