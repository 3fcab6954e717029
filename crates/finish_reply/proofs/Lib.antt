pub mod Whole
pub mod Telling
pub mod Determined
pub mod ReadBack
