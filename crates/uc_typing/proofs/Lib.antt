pub mod Members
pub mod OneOutcome
pub mod OnePattern
pub mod RelinkedOutcomes
pub mod RelinkedTerms
pub mod SmallComponents
