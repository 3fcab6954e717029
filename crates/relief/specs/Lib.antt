pub mod Pieces
pub mod Marks
pub mod Runs
