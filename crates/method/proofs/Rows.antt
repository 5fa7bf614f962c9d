-- What is proved of the definitions of Rows.
pub mod Steps
pub mod Zeros
pub mod Runs
pub mod Moved
pub mod Calls
pub mod Ordered
pub mod Cases
