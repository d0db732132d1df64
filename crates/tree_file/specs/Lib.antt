pub mod Fields
pub mod Texts
pub mod Reading
pub mod Rules
pub mod Generated
pub mod Faults
pub mod Kept
