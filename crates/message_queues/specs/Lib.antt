pub mod Parcels
pub mod Queues
pub mod Oldest
pub mod Dying
pub mod Steps
pub mod Laws
