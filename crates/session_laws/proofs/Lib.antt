mod Sets
mod Crossings
mod Opens
mod Heard
mod Requests
mod LineagesServing
mod Beginning
mod LineagesHold
mod LineagesServed
pub mod Times
mod Wanted
mod Allowing
mod Opening
mod TokensGiven
pub mod Changes
pub mod Tokens
pub mod Answering
pub mod Narrow
pub mod Forms
pub mod Framed
pub mod ShortIds
pub mod Front
pub mod Written
pub mod RepliesServed
pub mod Ordered
pub mod Once
pub mod Settled
pub mod Names
pub mod Acts
pub mod Messages
pub mod Told
pub mod WatchersServing
pub mod Seen
pub mod Named
pub mod Spelled
pub mod Knowing
mod EachSet
pub mod Keeping
