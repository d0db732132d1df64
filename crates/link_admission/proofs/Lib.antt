pub mod Made
pub mod Tabled
pub mod Paged
pub mod Counting
pub mod Travelling
pub mod Numbered
pub mod Leveled
