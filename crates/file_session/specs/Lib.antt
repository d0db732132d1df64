pub mod OneFile
pub mod Meanings
pub mod Bound
pub mod Seen
