pub mod FlagWords
pub mod SetWords
pub mod GrantLemmas
