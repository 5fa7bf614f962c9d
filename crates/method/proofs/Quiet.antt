-- What is proved of the definitions of Quiet.
pub mod Laws
pub mod Drops
pub mod Cases
pub mod Zeros
pub mod Calm
