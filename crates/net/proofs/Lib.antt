pub mod Judging
pub mod Determined
