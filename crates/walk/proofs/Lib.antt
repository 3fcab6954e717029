pub mod Settling
pub mod Wiring
pub mod Stepping
