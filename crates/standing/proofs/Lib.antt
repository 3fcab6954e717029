-- What the proofs of several functions use.
pub mod Walk
pub mod Begun
