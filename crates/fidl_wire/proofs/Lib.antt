pub mod ReadHeaders
pub mod Padded
pub mod Rows
pub mod Sizes
mod Utf8
pub mod Members
pub mod OneMember
