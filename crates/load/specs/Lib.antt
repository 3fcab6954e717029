pub mod Next
pub mod Tables
pub mod Asks
pub mod Weighed
pub mod Props
