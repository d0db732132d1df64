pub mod Words
pub mod Statuses
pub mod Tables
pub mod Rewriting
pub mod Answers
pub mod Steps
