-- What is proved of the definitions of Fill.
pub mod Numbers
