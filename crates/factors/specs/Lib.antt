-- What the proofs of the identity fill and of the row view go by, where the view lies, and that both promises allow one
-- answer.
pub mod Fill
pub mod View
pub mod Answers
