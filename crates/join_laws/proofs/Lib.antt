pub mod FaringLemmas
pub mod ServedLemmas
pub mod WayLemmas
pub mod TextLemmas
pub mod LinkedLemmas
pub mod ScriptedLemmas
