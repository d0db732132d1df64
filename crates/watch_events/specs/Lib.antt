pub mod Events
pub mod Messages
pub mod Watching
pub mod NamesNow
pub mod Codes
pub mod Rows
pub mod Steps
