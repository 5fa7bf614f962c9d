-- What the calls by a profile's number owe, and what the proofs go by.
pub mod Ways
pub mod Answers
pub mod Demands
