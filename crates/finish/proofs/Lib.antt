pub mod Leading
pub mod Clearing
pub mod Finishing
pub mod Judging
pub mod Determined
pub mod Demands
pub mod Numbers
pub mod Examples
