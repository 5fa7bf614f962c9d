-- The code's values as the method's.
pub mod Values
pub mod Loan
pub mod Rows
pub mod Reflections
pub mod Turns
pub mod Passes
pub mod Calls
pub mod Answers
pub mod Told
pub mod Demands
