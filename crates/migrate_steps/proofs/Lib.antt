pub mod RowLemmas
pub mod RecordLemmas
