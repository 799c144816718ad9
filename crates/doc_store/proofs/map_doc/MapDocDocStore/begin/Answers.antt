use Rattle.std.proofs.Common.{◌≡◌, suc, length, ap, sym, subst, arith}
use Rattle.doc_store.specs.Slots.{AreFull}
use Rattle.doc_store.specs.Journal.{begun, IsUndoable, slots_before, notes_of}
use Rattle.doc_store.proofs.map_doc.MapDocDocStore.begin.Goals as goal

pub invariant_of-self-2 : goal.invariant_of-self-2
invariant_of-self-2 c =
    let slots = c.self.inside.slots in
    let was = c.self.invariant.counted in
    let one : length (begun (notes_of c.begin.new.journal.items) slots) ≡ suc (length (begun (notes_of c.self.inside.journal.items) slots)) = ap (λ ns. length (begun ns slots)) c.in_ok-begin.ensures.ok in
    record {
      undoable = subst (λ ns. IsUndoable ns slots) (sym c.in_ok-begin.ensures.ok) c.self.invariant.undoable;
      counted = omega (arith, was, one);
      idle = λ none. absurd (omega (arith, none));
      full = subst (λ ns. AreFull (slots_before ns slots)) (sym c.in_ok-begin.ensures.ok) c.self.invariant.full;
    }
