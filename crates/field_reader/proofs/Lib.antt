pub mod Determined
pub mod Numbers
