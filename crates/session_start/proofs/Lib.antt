-- The lemmas of this crate. Soundness, Accepted and what they name are those that crates above cite.
pub mod Found
pub mod OnePlaceMore
pub mod Accepted
pub mod Numbers
pub mod Trees
pub mod Standing
pub mod Placing
pub mod Rising
pub mod Edges
pub mod Soundness
pub mod Chosen
pub mod NamedNodes
pub mod Seated
pub mod Nexts
