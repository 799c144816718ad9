mod CutLemmas
pub mod PieceLemmas
mod FeedingLemmas
mod StreamLemmas
