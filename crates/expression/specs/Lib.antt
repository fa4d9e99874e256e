pub mod Expression
pub mod Read
pub mod Readers
pub mod Total
pub mod Judged
pub mod Answers
pub mod Again
pub mod Least
