-- What the proofs of several functions use.
pub mod Walk
pub mod Weighing
pub mod CheckedIsLegal
pub mod VerdictSays
pub mod Numbers
pub mod Determined
