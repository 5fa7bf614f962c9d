-- What is proved of the definitions of Checks.
pub mod Tests
pub mod First
pub mod Readings
pub mod Table
pub mod Cases
