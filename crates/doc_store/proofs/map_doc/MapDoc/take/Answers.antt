use Rattle.std.proofs.Common.{◌≡◌, [], length, ap, sym, subst, ◌∙◌}
use Rattle.rooms_val.specs.Maps.{value_at, without_key}
use Rattle.doc_store.specs.Slots.{AreFull}
use Rattle.doc_store.specs.Journal.{begun, IsUndoable, slots_before, notes_of}
use Rattle.doc_store.proofs.map_doc.MapDoc.take.Goals as goal

pub invariant_of-self : goal.invariant_of-self
invariant_of-self c =
    let old = c.self.inside.slots in
    let slots = c.take_plain.new.slots in
    let idle = c.self.invariant.counted ∙ ap length (ap (λ d. d.1) c.self.view_is ∙ c.requires) in
    let none : c.self.inside.journal.items ≡ [] = c.self.invariant.idle idle in
    record {
      undoable = subst (λ es. IsUndoable (notes_of es) slots) (sym none) tt;
      counted = idle ∙ sym (ap (λ es. length (begun (notes_of es) slots)) none);
      idle = c.self.invariant.idle;
      full = subst (λ es. AreFull (slots_before (notes_of es) slots)) (sym none)
          (c.take_plain.ensures.full (subst (λ es. AreFull (slots_before (notes_of es) old)) none c.self.invariant.full));
    }

pub returns-clause-old : goal.returns-clause-old
returns-clause-old c = c.take_plain.ensures.old ∙ ap (λ d. value_at d.0 c.args.id.now) c.self.view_is

pub returns-clause-rest : goal.returns-clause-rest
returns-clause-rest c =
    let idle = c.self.invariant.counted ∙ ap length (ap (λ d. d.1) c.self.view_is ∙ c.requires) in
    let none : c.self.inside.journal.items ≡ [] = c.self.invariant.idle idle in
    let records = c.take_plain.ensures.rest ∙ ap (λ d. without_key d.0 c.args.id.now) c.self.view_is in
    let begun_none = ap (λ es. begun (notes_of es) c.take_plain.new.slots) none in
    (λ i. (records i, begun_none i))
