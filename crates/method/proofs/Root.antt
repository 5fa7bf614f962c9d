-- What is proved of the definitions of Root.
pub mod Whole
pub mod Grid
pub mod Counts
pub mod Patterns
pub mod Laws
pub mod Written
pub mod Neighbours
pub mod Enclosing
pub mod Special
pub mod Turns
pub mod Page
pub mod Cases
