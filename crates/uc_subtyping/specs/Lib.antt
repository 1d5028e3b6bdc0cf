pub mod Ends
pub mod InHand
pub mod Instances
pub mod Instantiation
pub mod Laws
pub mod Outcomes
pub mod Readiness
pub mod Subtyping
