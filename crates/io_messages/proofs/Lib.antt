pub mod Known
pub mod BegunListings
pub mod Lengths
pub mod Unions
pub mod PutAtOnce
