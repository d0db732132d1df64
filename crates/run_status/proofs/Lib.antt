pub mod NoteLemmas
pub mod FoundFiles
