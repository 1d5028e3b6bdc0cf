pub mod Answers
pub mod FewKnown
pub mod Walks
