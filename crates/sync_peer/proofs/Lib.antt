pub mod PeerLemmas
pub mod CopyLemmas
pub mod WatchLemmas
