pub mod Extending
pub mod Laws
pub mod Valuations
pub mod WellFormed
