pub mod Carrying
pub mod Says
pub mod Determined
