-- What the app's promises speak of, and what follows from them.
pub mod Values
pub mod Row
pub mod Answers
