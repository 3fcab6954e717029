-- What the proofs of several functions use.
pub mod Stored
pub mod Numbers
pub mod Determined
