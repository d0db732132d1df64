-- What endpoints are told where nobody changes anything. The law is in Answers, and a reader of it
-- believes Told, Premises and Steps; the others are what its proof goes by.
pub mod Told
pub mod Premises
pub mod Quiet
pub mod Room
pub mod Steps
pub mod Counting
pub mod Tables
pub mod Invariant
pub mod Answers
