pub mod Listing
pub mod Solving
pub mod Determined
pub mod Numbers
pub mod Whole
