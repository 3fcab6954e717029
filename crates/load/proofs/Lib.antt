-- What the proofs of several functions use.
pub mod Order
pub mod Begins
pub mod Clear
pub mod Bound
pub mod Offsets
pub mod Scan
pub mod Spans
pub mod Parts
pub mod Wire
pub mod Determined
