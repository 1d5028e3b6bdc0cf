pub mod Formed
pub mod Growing
pub mod Laws
pub mod Seeing
