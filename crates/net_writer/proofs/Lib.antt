pub mod Writing
pub mod Written
