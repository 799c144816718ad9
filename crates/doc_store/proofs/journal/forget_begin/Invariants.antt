use Rattle.std.proofs.Common.{◌≡◌, ◌≤◌, ◌++◌, length, take, drop}
use Rattle.doc_store.specs.Journal.{forgotten, notes_of}
use Rattle.doc_store.proofs.journal.forget_begin.Given as goal

abbrev pub invariant-back : goal.invariant-back
invariant-back l = record {
  same : l.journal.items ≡ l.initial.journal.items;
  within : l.place ≤ length l.journal.items;
  later_wrote : forgotten (notes_of l.journal.items) ≡ notes_of (drop l.place l.journal.items) ++ forgotten (notes_of (take l.place l.journal.items));
}

abbrev pub decreases-back : goal.decreases-back
decreases-back l = l.place
