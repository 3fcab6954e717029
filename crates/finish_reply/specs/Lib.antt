pub mod Finishes
pub mod Steps
