pub mod TellingLemmas
pub mod NewsLemmas
