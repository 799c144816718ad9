mod LastWritesLemmas
pub mod TurnLemmas
mod KeptLemmas
mod HistoryLemmas
mod PassingLemmas
pub mod WrittenLemmas
mod EntryLemmas
pub mod FromLemmas
mod UndoLemmas
mod JournalLemmas
mod PutBackLemmas
mod TxnLemmas
mod SinceLemmas
