pub mod Writing
pub mod Determined
pub mod Numbers
