pub mod Words
pub mod Spelled
pub mod Streams
pub mod Feeding
pub mod Runs
