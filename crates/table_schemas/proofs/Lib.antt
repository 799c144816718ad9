pub mod PresenceLemmas
