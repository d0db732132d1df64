mod Kept
mod Walked
mod Changed
mod Copied
