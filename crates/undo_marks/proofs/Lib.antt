pub mod TurnLemmas
pub mod MergeLemmas
pub mod JoinLemmas
pub mod HistoryLemmas
pub mod BackLemmas
pub mod KeptLemmas
pub mod WalkLemmas
