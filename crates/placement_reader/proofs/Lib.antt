pub mod Judging
pub mod Filling
pub mod Determined
pub mod Numbers
