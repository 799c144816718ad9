use Rattle.std.proofs.Common.{◌≡◌, [], length, ap, sym, subst, ◌∙◌, arith}
use Rattle.doc_store.specs.Slots.{AreFull}
use Rattle.doc_store.specs.Journal.{begun, IsUndoable, slots_before, notes_of}
use Rattle.doc_store.proofs.map_doc.MapDocDocStore.write.Goals as goal

pub invariant_of-self : goal.invariant_of-self
invariant_of-self g c =
    let old = c.self.inside.slots in
    let slots = c.write_plain.new.slots in
    let none : c.self.inside.journal.items ≡ [] = c.self.invariant.idle c.if-self-eq0.true in
    record {
      undoable = subst (λ es. IsUndoable (notes_of es) slots) (sym none) tt;
      counted = c.if-self-eq0.true ∙ sym (ap (λ es. length (begun (notes_of es) slots)) none);
      idle = c.self.invariant.idle;
      full = subst (λ es. AreFull (slots_before (notes_of es) slots)) (sym none)
          (c.write_plain.ensures.full (subst (λ es. AreFull (slots_before (notes_of es) old)) none c.self.invariant.full));
    }

pub invariant_of-self-2 : goal.invariant_of-self-2
invariant_of-self-2 g c = record {
  undoable = c.write.ensures.undoable;
  counted = c.self.invariant.counted ∙ ap length (sym c.write.ensures.begun);
  idle = λ none. absurd (omega (arith, none));
  full = subst AreFull (sym c.write.ensures.before) c.self.invariant.full;
}
