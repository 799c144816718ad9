use Rattle.std.proofs.Common.{◌≡◌, ap, sym, subst, ◌∙◌}
use Rattle.rooms_val.specs.Maps.{value_at, set_at, with_key}
use Rattle.field_ops.specs.View.{maybe_data}
use Rattle.doc_store.specs.Slots.{slot_record, present}
use Rattle.doc_store.specs.Journal.{wrote, begun, IsUndoable, slots_before, notes_of}
use Rattle.doc_store.proofs.SlotLaws.{get-present, present-with_key}
use Rattle.doc_store.proofs.Journals.{noted, begun-write, begun-unwritten, before-write, before-unwritten, undoable-write, undoable-unwritten}
use Rattle.doc_store.proofs.journal.write.Goals as goal

pub returns-in_err-old-clause-undoable : goal.returns-in_err-old-clause-undoable
returns-in_err-old-clause-undoable c =
    let notes = noted c.args.journal.now.items _ _ _ c.in_ok-push.ensures.items (λ i. wrote (c.in_ok-from_str.ensures.ok i) (c.in_ok-before.ensures.found i)) in
    subst (λ s. IsUndoable (notes_of c.push.new.self.items) s) (sym c.in_err-old.ensures.err)
    (subst (λ ns. IsUndoable ns c.args.slots.now) (sym notes) (undoable-unwritten (notes_of c.args.journal.now.items) c.args.slots.now c.args.id.now c.in_ok-before.ensures.sound.rising c.requires))

pub returns-in_err-old-clause-begun : goal.returns-in_err-old-clause-begun
returns-in_err-old-clause-begun c =
    let notes = noted c.args.journal.now.items _ _ _ c.in_ok-push.ensures.items (λ i. wrote (c.in_ok-from_str.ensures.ok i) (c.in_ok-before.ensures.found i)) in
    (λ i. begun (notes i) (c.in_err-old.ensures.err i)) ∙ begun-unwritten (notes_of c.args.journal.now.items) c.args.slots.now c.args.id.now c.in_ok-before.ensures.sound.rising

pub returns-clause-old : goal.returns-clause-old
returns-clause-old c =
    c.record_in.ensures ∙ ap slot_record (c.in_ok-old.ensures.old ∙ ap (value_at c.args.slots.now) c.in_ok-key.ensures.ok) ∙ sym (get-present c.args.slots.now c.args.id.now)

pub returns-clause-ok : goal.returns-clause-ok
returns-clause-ok c =
    ap present c.in_ok-old.ensures.ok ∙ present-with_key c.args.slots.now _ (maybe_data c.args.stored) ∙ ap (λ k. set_at (present c.args.slots.now) k (maybe_data c.args.stored)) c.in_ok-key.ensures.ok

pub returns-clause-undoable : goal.returns-clause-undoable
returns-clause-undoable c =
    let notes = noted c.args.journal.now.items _ _ _ c.in_ok-push.ensures.items (λ i. wrote (c.in_ok-from_str.ensures.ok i) (c.in_ok-before.ensures.found i)) in
    let left : c.put.new.self ≡ with_key c.args.slots.now c.args.id.now (maybe_data c.args.stored) =
    c.in_ok-old.ensures.ok ∙ ap (λ k. with_key c.args.slots.now k (maybe_data c.args.stored)) c.in_ok-key.ensures.ok in
    subst (λ s. IsUndoable (notes_of c.push.new.self.items) s) (sym left)
    (subst (λ ns. IsUndoable ns (with_key c.args.slots.now c.args.id.now (maybe_data c.args.stored))) (sym notes)
    (undoable-write (notes_of c.args.journal.now.items) c.args.slots.now c.args.id.now c.in_ok-before.ensures.sound.rising (maybe_data c.args.stored) c.requires))

pub returns-clause-begun : goal.returns-clause-begun
returns-clause-begun c =
    let notes = noted c.args.journal.now.items _ _ _ c.in_ok-push.ensures.items (λ i. wrote (c.in_ok-from_str.ensures.ok i) (c.in_ok-before.ensures.found i)) in
    let left : c.put.new.self ≡ with_key c.args.slots.now c.args.id.now (maybe_data c.args.stored) =
    c.in_ok-old.ensures.ok ∙ ap (λ k. with_key c.args.slots.now k (maybe_data c.args.stored)) c.in_ok-key.ensures.ok in
    (λ i. begun (notes i) (left i)) ∙ begun-write (notes_of c.args.journal.now.items) c.args.slots.now c.args.id.now c.in_ok-before.ensures.sound.rising (maybe_data c.args.stored)

pub returns-in_err-old-clause-before : goal.returns-in_err-old-clause-before
returns-in_err-old-clause-before c =
    let notes = noted c.args.journal.now.items _ _ _ c.in_ok-push.ensures.items (λ i. wrote (c.in_ok-from_str.ensures.ok i) (c.in_ok-before.ensures.found i)) in
    (λ i. slots_before (notes i) (c.in_err-old.ensures.err i)) ∙ before-unwritten (notes_of c.args.journal.now.items) c.args.slots.now c.args.id.now c.in_ok-before.ensures.sound.rising

pub returns-clause-before : goal.returns-clause-before
returns-clause-before c =
    let notes = noted c.args.journal.now.items _ _ _ c.in_ok-push.ensures.items (λ i. wrote (c.in_ok-from_str.ensures.ok i) (c.in_ok-before.ensures.found i)) in
    let left : c.put.new.self ≡ with_key c.args.slots.now c.args.id.now (maybe_data c.args.stored) =
    c.in_ok-old.ensures.ok ∙ ap (λ k. with_key c.args.slots.now k (maybe_data c.args.stored)) c.in_ok-key.ensures.ok in
    (λ i. slots_before (notes i) (left i)) ∙ before-write (notes_of c.args.journal.now.items) c.args.slots.now c.args.id.now c.in_ok-before.ensures.sound.rising (maybe_data c.args.stored)
