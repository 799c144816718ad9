pub mod DocumentLemmas
pub mod TombLemmas
pub mod IdLemmas
pub mod SeenLemmas
pub mod LineLemmas
pub mod RaiseLemmas
pub mod PlanLemmas
