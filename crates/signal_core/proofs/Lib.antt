mod GotLemmas
mod WatchLemmas
mod NewsLemmas
