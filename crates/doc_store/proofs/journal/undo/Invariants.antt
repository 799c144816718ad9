use Rattle.std.proofs.Common.{◌≡◌, length}
use Rattle.doc_store.specs.Journal.{begun, IsUndoable, slots_before, notes_of}
use Rattle.doc_store.proofs.journal.undo.Given as goal

abbrev pub invariant-entries : goal.invariant-entries
invariant-entries l = record {
  same : begun (notes_of l.journal.items) l.slots ≡ begun (notes_of l.initial.journal.items) l.initial.slots;
  undoable : IsUndoable (notes_of l.journal.items) l.slots;
  before : slots_before (notes_of l.journal.items) l.slots ≡ slots_before (notes_of l.initial.journal.items) l.initial.slots;
}

abbrev pub decreases-entries : goal.decreases-entries
decreases-entries l = length l.journal.items
