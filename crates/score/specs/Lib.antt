-- What the counts of a score are.
pub mod Counts
pub mod Answers
