-- What is proved of the definitions of View.
pub mod Rows
