pub mod StatusNumber
pub mod First
pub mod HandleNumber
pub mod Numbers
