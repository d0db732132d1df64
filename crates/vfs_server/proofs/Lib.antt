-- The lemmas of this crate.
pub mod Maps
pub mod Counts
mod FileReads
mod Found
pub mod SeatLists
pub mod Seats
pub mod Walking
pub mod Acting
pub mod Looked
pub mod Allowed
pub mod Taken
pub mod Carried
pub mod Handed
pub mod Giving
pub mod Answering
pub mod Held
pub mod KeptNodes
pub mod Sound
pub mod Told
pub mod Binding
pub mod Naming
pub mod Servings
pub mod Settled
pub mod Acted
pub mod Begins
pub mod Begun
