pub mod PushingLemmas
pub mod AnsweringLemmas
pub mod WatchLemmas
pub mod HearingLemmas
