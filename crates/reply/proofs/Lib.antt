pub mod Showing
pub mod Writing
pub mod Judged
pub mod Determined
