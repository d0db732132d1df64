mod Handles
mod Finite
mod Numbers
mod Changed
mod Turns
mod Kept
mod Sound
mod Burials
mod Above
mod Served
mod Spread
mod PutBehind
mod Gathered
mod Listed
mod Placed
mod Least
pub mod Counting
