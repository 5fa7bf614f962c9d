-- What the functions' proofs cite: facts of plain numbers, and of the bit patterns. And what the promises of the root
-- and of its page say of every f64.
pub mod Root
pub mod Page
mod Turns
mod Level
mod Joined
mod Signs
mod Cases
mod Halves
mod Patterns
