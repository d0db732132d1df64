pub mod Words
pub mod Notes
pub mod Texts
pub mod Answers
pub mod Watched
pub mod Steps
