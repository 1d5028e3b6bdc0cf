pub mod Asking
pub mod Binding
pub mod Spots
pub mod Walks
