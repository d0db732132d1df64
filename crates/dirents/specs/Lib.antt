pub mod Listings
pub mod Packing
pub mod Reading
pub mod Steps
