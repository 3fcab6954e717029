pub mod Pieces
pub mod Runs
pub mod WireLower
pub mod Lower
pub mod Reach
pub mod Least
