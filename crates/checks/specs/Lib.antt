-- The settings and the refusal as the method's, what the proofs go by, and that the promises allow one answer.
pub mod Values
pub mod Refused
pub mod Answers
