mod Keys
mod Sending
mod Getting
pub mod Fronts
pub mod Lines
mod Scribing
mod ReadBack
mod Played
pub mod Shown
mod Stages
mod Answered
mod Whole
mod Counting
mod Metering
pub mod ScriptLemmas
pub mod WorkloadLemmas
