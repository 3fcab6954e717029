pub mod Answers
pub mod Checks
pub mod Files
pub mod Carries
pub mod Solves
pub mod Finishes
