-- What is said of the root and of its page, of every f64; and that each promise allows one answer. That it holds of
-- every answer is in proofs/.
pub mod Values
pub mod Root
pub mod Page
pub mod Answers
