pub mod ViewsLemmas
pub mod QueriesLemmas
pub mod AskingLemmas
