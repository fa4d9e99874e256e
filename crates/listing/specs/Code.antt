-- What the code's own values mean.
pub mod Cost
