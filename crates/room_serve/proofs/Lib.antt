pub mod AccountLemmas
pub mod CourseLemmas
pub mod JoiningLemmas
pub mod TallyLemmas
pub mod TurnLemmas
pub mod VisitLemmas
