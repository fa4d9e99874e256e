-- What the code's own values mean.
pub mod Blocks
pub mod Lengths
