pub mod Leaves
pub mod Sinks
pub mod Short
