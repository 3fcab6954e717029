pub mod Format
pub mod Listed
