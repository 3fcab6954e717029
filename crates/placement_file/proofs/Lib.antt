pub mod Judging
pub mod Listing
pub mod RoundTrip
pub mod SamePlacement
pub mod FileNumbers
pub mod Example
pub mod Held
pub mod FirstBytes
