pub mod Laying
pub mod Digits
pub mod Example
pub mod Determined
pub mod Entries
