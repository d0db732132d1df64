pub mod Words
pub mod Lines
pub mod Kept
pub mod Noting
pub mod Parsed
pub mod Scripts
pub mod Transcripts
