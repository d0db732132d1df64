-- The program `audit`: its statuses and what it answers.
pub mod Statuses
pub mod Answers
