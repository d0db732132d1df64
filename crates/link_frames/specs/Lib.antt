pub mod Numbers
pub mod Frames
pub mod Fronts
pub mod Views
pub mod Laws
pub mod Deframing
pub mod Gathering
pub mod Refusals
