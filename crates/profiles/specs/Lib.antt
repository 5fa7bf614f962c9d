-- What a number picks as the method's, and that the promise allows one answer.
pub mod Values
pub mod Table
pub mod Answers
