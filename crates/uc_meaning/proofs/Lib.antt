pub mod CandidateSteps
pub mod HeadSteps
pub mod Inserted
pub mod LiteralTexts
pub mod Names
pub mod UsingSteps
pub mod EntrySteps
pub mod MeaningSteps
mod WantedSenses
pub mod WordSteps
pub mod SenseSteps
pub mod Unhidden
pub mod SuffixSteps
