pub mod Shown
pub mod TreeSession
pub mod Words
pub mod Answers
pub mod Lawful
