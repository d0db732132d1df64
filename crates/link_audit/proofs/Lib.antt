pub mod Tags
pub mod Lent
pub mod Places
pub mod OneVerdict
pub mod Reasons
pub mod Stepping
pub mod Coming
