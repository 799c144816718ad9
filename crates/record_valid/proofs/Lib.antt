pub mod KeysLemmas
pub mod FaultsLemmas
pub mod FitsLemmas
pub mod ByKeyLemmas
