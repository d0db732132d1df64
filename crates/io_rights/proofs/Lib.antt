pub mod OperationSets
pub mod LetterTexts
