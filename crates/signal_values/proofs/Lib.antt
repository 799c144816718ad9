mod RowLemmas
mod WiredLemmas
mod MarkLemmas
pub mod ListLemmas
pub mod AtomLemmas
mod GraphLemmas
pub mod KeptLemmas
mod SettleLemmas
mod AskLemmas
mod WriteLemmas
mod SeenLemmas
