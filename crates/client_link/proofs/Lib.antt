pub mod SendingLemmas
pub mod HearingLemmas
pub mod WaitingLemmas
