pub mod Number
pub mod Card
pub mod Read
pub mod Answers
pub mod Stored
