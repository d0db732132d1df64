pub mod Causes
pub mod Complete
pub mod Few
pub mod Piped
