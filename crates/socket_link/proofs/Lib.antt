pub mod ShakenLemmas
pub mod WireLemmas
