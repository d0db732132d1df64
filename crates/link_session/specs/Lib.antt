pub mod Session
pub mod Pieces
pub mod Serving
