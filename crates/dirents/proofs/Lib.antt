pub mod Listed
mod Lengths
mod Taking
mod Once
mod Numbers
mod Found
