pub mod Gathered
pub mod Loops
pub mod Scopes
pub mod StepLaws
pub mod Steps
