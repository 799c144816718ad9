pub mod ListLemmas
pub mod ResultLemmas
pub mod IdLemmas
pub mod ToldLemmas
pub mod EventLemmas
pub mod SnapshotLemmas
pub mod UpdatesLemmas
pub mod LawfulLemmas
