pub mod Built
pub mod Names
pub mod Whole
pub mod PlanLemmas
