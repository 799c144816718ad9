pub mod PieceLemmas
pub mod HearingLemmas
pub mod JoinLemmas
pub mod SendingLemmas
