pub mod KeptLemmas
pub mod SavedLemmas
pub mod LoadLemmas
pub mod AnswerLemmas
