pub mod Reaches
pub mod Served
pub mod Opened
pub mod Tried
