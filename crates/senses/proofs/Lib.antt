-- What the proofs of several functions use.
pub mod Sinks
pub mod Odd
pub mod Inverters
pub mod Senses
