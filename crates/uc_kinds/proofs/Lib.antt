pub mod Clean
pub mod Faultless
pub mod Insides
pub mod Loops
pub mod NodeCounts
pub mod TypingExamples
pub mod Walking
