pub mod CleanLemmas
pub mod Keyed
pub mod TreeLemmas
pub mod ReachLemmas
pub mod FaultLemmas
pub mod JoinLemmas
pub mod LawLemmas
