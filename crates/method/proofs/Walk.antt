-- What is proved of the definitions of Walk.
pub mod Run
pub mod Counts
pub mod Limits
pub mod Alike
pub mod Loop
pub mod Applied
pub mod Drops
pub mod Turns
