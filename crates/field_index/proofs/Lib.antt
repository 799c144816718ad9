pub mod IndexLemmas
pub mod TreeLemmas
pub mod PlacesLemmas
pub mod AnswerLemmas
pub mod EqualLemmas
pub mod GreaterLemmas
