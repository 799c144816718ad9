pub mod PlanLemmas
pub mod SizeLemmas
pub mod PartLemmas
pub mod PresenceLemmas
pub mod EntryLemmas
pub mod AdmittedLemmas
