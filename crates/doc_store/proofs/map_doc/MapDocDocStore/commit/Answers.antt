use Rattle.std.proofs.Common.{◌≡◌, ◌-◌, length, ap, sym, subst, ◌∙◌}
use Rattle.doc_store.specs.Begun.{outer}
use Rattle.doc_store.specs.Journal.{begun, IsUndoable, slots_before, notes_of}
use Rattle.doc_store.specs.Slots.{AreFull}
use Rattle.doc_store.proofs.Fullness.{slots_before-forgotten}
use Rattle.doc_store.proofs.Journals.{begun-forgotten, undoable-forgotten, tidied, length-outer}
use Rattle.doc_store.proofs.map_doc.MapDocDocStore.commit.Goals as goal

pub tidy-requires-clause-full : goal.tidy-requires-clause-full
tidy-requires-clause-full c =
    subst AreFull (sym (ap (λ ns. slots_before ns c.self.inside.slots) c.forget_begin.ensures ∙ slots_before-forgotten (notes_of c.self.inside.journal.items) c.self.inside.slots)) c.self.invariant.full

pub tidy-requires-clause-undoable : goal.tidy-requires-clause-undoable
tidy-requires-clause-undoable c = subst (λ ns. IsUndoable ns c.self.inside.slots) (sym c.forget_begin.ensures) (undoable-forgotten (notes_of c.self.inside.journal.items) c.self.inside.slots c.self.invariant.undoable)

pub invariant_of-self : goal.invariant_of-self
invariant_of-self c =
    let had = begun (notes_of c.self.inside.journal.items) c.self.inside.slots in
    let fewer : c.self.inside.depth - 1 ≡ length (outer had) = ap (λ n. n - 1) c.self.invariant.counted ∙ sym (length-outer had) in
    let left = tidied (c.self.inside.depth - 1) c.tidy.new.journal.items c.tidy.new.slots (outer had) fewer c.tidy.ensures.idle
    (λ some. c.tidy.ensures.busy some ∙ ap (λ ns. begun ns c.self.inside.slots) c.forget_begin.ensures ∙ begun-forgotten (notes_of c.self.inside.journal.items) c.self.inside.slots) in
    record { undoable = c.tidy.ensures.undoable; counted = fewer ∙ ap length (sym left); idle = c.tidy.ensures.idle; full = c.tidy.ensures.full }

pub returns-clause-begun : goal.returns-clause-begun
returns-clause-begun c =
    let had = begun (notes_of c.self.inside.journal.items) c.self.inside.slots in
    tidied (c.self.inside.depth - 1) c.tidy.new.journal.items c.tidy.new.slots (outer had) (ap (λ n. n - 1) c.self.invariant.counted ∙ sym (length-outer had)) c.tidy.ensures.idle
    (λ some. c.tidy.ensures.busy some ∙ ap (λ ns. begun ns c.self.inside.slots) c.forget_begin.ensures ∙ begun-forgotten (notes_of c.self.inside.journal.items) c.self.inside.slots)
    ∙ ap (λ d. outer d.1) c.self.view_is
