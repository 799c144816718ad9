-- What a plain store keeps of its slots and its journal.
use Rattle.std.specs.Prelude.{◌≡◌, ℕ, List, [], length}
use Rattle.doc_store.specs.Slots.{Slots, AreFull}
use Rattle.doc_store.specs.Journal.{begun, IsUndoable, slots_before, notes_of}
use Rattle.doc_store.specs.declared.journal.Entry.{Entry}

pub record IsKept (slots : Slots) (journal : List Entry) (depth : ℕ) : Type 0 where
  pub undoable : IsUndoable (notes_of journal) slots
  pub counted : depth ≡ length (begun (notes_of journal) slots)
  pub idle : depth ≡ 0 → journal ≡ []
  -- outside transactions nothing is noted, so that no slot is empty there
  pub full : AreFull (slots_before (notes_of journal) slots)
