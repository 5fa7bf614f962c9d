-- What is proved of the definitions of Report.
pub mod Words
