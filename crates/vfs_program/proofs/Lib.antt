mod ShowLemmas
pub mod Outputs
pub mod TreeLemmas
pub mod WordLists
pub mod Complete
pub mod OneMeaning
pub mod Lawful
