mod Epitaphs
mod Latest
mod Passing
mod Tables
mod Sending
