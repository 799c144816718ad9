pub mod EndingLemmas
pub mod MadeLemmas
pub mod ReadyLemmas
