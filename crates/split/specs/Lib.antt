-- What the contracts of `split` cite.
pub mod Printing
