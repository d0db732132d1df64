pub mod Outside
pub mod Reads
pub mod Notes
pub mod Texts
pub mod Causes
pub mod Files
pub mod Trees
pub mod FileCauses
