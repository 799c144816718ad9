pub mod StashLemmas
pub mod PartLemmas
pub mod WorkLemmas
pub mod OwnLemmas
pub mod NewBaseLemmas
pub mod ReplicaLemmas
pub mod TakenLemmas
pub mod CountLemmas
