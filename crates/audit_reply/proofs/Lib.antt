pub mod Auditing
pub mod Determined
