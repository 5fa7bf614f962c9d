-- What is proved of the definitions of Ordered.
pub mod Ways
pub mod Numbers
pub mod Laws
pub mod Cases
