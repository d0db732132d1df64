pub mod Once
mod Registered
mod Rowed
pub mod Told
mod Gathered
