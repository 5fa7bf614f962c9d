-- What is proved of the definitions of Outcome.
pub mod Reports
pub mod Refused
pub mod Calls
