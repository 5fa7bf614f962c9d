-- What follows from the definitions of the survey text in specs/: the laws of the code and of the text, what the
-- surveys of any text are, and that each promise allows one answer.
pub mod Lines
pub mod Found
pub mod LineSize
pub mod Bodies
pub mod Heads
pub mod Verdict
pub mod WritingLaws
pub mod Whole
pub mod TextSize
pub mod Room
pub mod Prefix
pub mod Round
pub mod Answers
pub mod Surveys
pub mod Example
