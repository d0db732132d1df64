-- What a session is: a reader of the contracts above believes each of these.
pub mod Entries
pub mod Handles
pub mod Starts
pub mod Outcomes
pub mod History
pub mod Tokens
pub mod Serving
pub mod Deaths
pub mod Past
pub mod Watching
pub mod Output
pub mod Session
pub mod Lawful
pub mod View
pub mod Fit
