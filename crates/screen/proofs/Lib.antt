pub mod Tallying
pub mod Passing
