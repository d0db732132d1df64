pub mod RowLemmas
pub mod BoundLemmas
pub mod ReadLemmas
pub mod SessionLemmas
pub mod SeenLemmas
