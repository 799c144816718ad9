pub mod LinesLemmas
pub mod ReadingLemmas
pub mod GatherLemmas
pub mod AwaitsLemmas
pub mod FillLemmas
