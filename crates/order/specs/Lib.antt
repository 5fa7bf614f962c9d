-- What the functions ask of their arguments and answer, the laws that their proofs go by, that the promise allows one
-- answer, and what it owes.
pub mod Room
pub mod Values
pub mod Laws
pub mod Ways
pub mod Answers
pub mod Told
pub mod Demands
