pub mod Joining
pub mod Ordered
