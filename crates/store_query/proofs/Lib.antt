pub mod AskingLemmas
pub mod RefreshingLemmas
