-- The lemmas of this crate. Accepted and GeneratedRules are those that crates above cite.
pub mod Views
pub mod Passes
pub mod Places
pub mod First
pub mod Read
pub mod Accepted
pub mod GeneratedRules
pub mod Starts
