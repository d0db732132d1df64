mod PieceLemmas
mod NumberLemmas
mod FormLemmas
mod ScriptLemmas
mod PrintLemmas
mod FrameLaws
pub mod ScriptFacts
