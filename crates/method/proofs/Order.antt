-- What is proved of the definitions of Order.
pub mod Places
pub mod Sizes
pub mod Columns
