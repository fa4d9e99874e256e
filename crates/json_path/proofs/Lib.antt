-- `Spans`, `Cases` and `Paths` serve the crates above too.
pub mod Spans
pub mod Cases
pub mod Paths
pub mod ProvedSet
