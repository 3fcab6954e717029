pub mod Cell
pub mod Plan
pub mod Frontier
pub mod Placed
pub mod Spaced
pub mod Starred
pub mod Cert
