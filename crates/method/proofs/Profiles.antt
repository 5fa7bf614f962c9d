-- What is proved of the definitions of Profiles.
pub mod Table
pub mod Nearest
pub mod Ways
pub mod Numbers
pub mod Cases
