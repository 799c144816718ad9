pub mod NamesLemmas
pub mod AdmitsLemmas
pub mod PatchedLemmas
