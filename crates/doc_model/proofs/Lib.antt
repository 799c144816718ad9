pub mod ReplayLemmas
pub mod InverseLemmas
pub mod MergeLemmas
pub mod MarkLemmas
pub mod PlainLemmas
pub mod RestoreLemmas
