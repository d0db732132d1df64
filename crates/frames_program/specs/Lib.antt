pub mod Words
pub mod Notes
pub mod Answers
pub mod Pipes
