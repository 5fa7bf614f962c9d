-- What is proved of the definitions of Moves.
pub mod Laws
