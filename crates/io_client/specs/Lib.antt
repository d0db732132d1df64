pub mod Calls
pub mod Codes
pub mod Latest
pub mod Taking
