-- What the proofs of several functions use.
pub mod Cut
pub mod Walk
pub mod Carrying
pub mod CarriedIsLegal
pub mod Numbers
pub mod Determined
pub mod Examples
