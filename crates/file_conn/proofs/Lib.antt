mod Coming
mod Rows
mod Serving
mod Acts
pub mod Echoes
