pub mod Copies
pub mod Seats
pub mod Steps
