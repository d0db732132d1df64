mod Begin
mod Bytes
mod Calls
mod Climbs
mod Creates
mod Gains
mod Heads
mod Indexed
mod Linked
mod Listed
mod Loops
mod Losses
mod Needed
pub mod Ordered
mod Readings
pub mod RowLists
mod Seats
mod Sheds
mod Shifts
pub mod SoundNames
pub mod Soundness
mod Standing
mod States
mod Steps
mod Ways
