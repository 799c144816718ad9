pub mod SerializedLemmas
pub mod OrderLemmas
pub mod PlanLemmas
pub mod BuildLemmas
pub mod Counts
pub mod Numbers
