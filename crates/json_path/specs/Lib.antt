pub mod Span
pub mod Path
pub mod Answers
pub mod ProvedSet
