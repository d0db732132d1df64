pub mod Operations
pub mod Needs
pub mod Letters
pub mod EachNumber
