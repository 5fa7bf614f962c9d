-- Texts as bytes: what they say and how they are written. Definitions only; what is proved of them is in proofs/.
pub mod Text
pub mod Code
pub mod Writing
pub mod Page
