pub mod Pieces
pub mod ServingLemmas
pub mod Progress
pub mod SessionEnds
