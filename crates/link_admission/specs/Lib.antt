pub mod Numbering
pub mod Tables
pub mod Pages
pub mod Standings
pub mod Admission
