-- What follows from the definitions of texts in specs/: the laws of reading and of writing, and that each promise
-- allows one answer.
pub mod Options
pub mod Digits
pub mod NumeralLaws
pub mod Cuts
pub mod WritingLaws
pub mod Pages
pub mod Round
pub mod Answers
