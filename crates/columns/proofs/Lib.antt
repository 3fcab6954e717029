pub mod Spacing
pub mod Listing
pub mod Alike
