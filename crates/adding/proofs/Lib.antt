pub mod Walking
pub mod Storing
pub mod Summing
pub mod Marking
