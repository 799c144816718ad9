use Rattle.std.proofs.Common.{◌≡◌, length}
use Rattle.doc_store.specs.Slots.{present}
use Rattle.doc_store.specs.Journal.{AreNoted, notes_of}
use Rattle.doc_store.proofs.journal.clear.Given as goal

abbrev pub invariant-entries : goal.invariant-entries
invariant-entries l = record {
  records : present l.slots ≡ present l.initial.slots;
  noted : AreNoted (notes_of l.journal.items) l.slots;
}

abbrev pub decreases-entries : goal.decreases-entries
decreases-entries l = length l.journal.items
