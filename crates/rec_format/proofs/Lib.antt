pub mod RefusalLemmas
mod TextLemmas
pub mod EventLemmas
pub mod OneEachLemmas
pub mod DiffLemmas
