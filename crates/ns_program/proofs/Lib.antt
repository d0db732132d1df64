pub mod TableLemmas
pub mod ScriptLemmas
pub mod AnswerLemmas
pub mod Complete
