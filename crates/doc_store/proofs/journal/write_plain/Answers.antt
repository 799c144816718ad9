use Rattle.std.proofs.Common.{Some, ap, sym, subst, ◌∙◌}
use Rattle.rooms_val.specs.View.{data_of}
use Rattle.rooms_val.specs.Maps.{value_at, set_at}
use Rattle.field_ops.specs.View.{maybe_data}
use Rattle.doc_store.specs.Slots.{slot_record, present, AreFull}
use Rattle.doc_store.proofs.SlotLaws.{get-present, present-with_key}
use Rattle.doc_store.proofs.Fullness.{full-with_key}
use Rattle.doc_store.proofs.journal.write_plain.Goals as goal

pub returns-in_ok-put-in-Some-clause-old : goal.returns-in_ok-put-in-Some-clause-old
returns-in_ok-put-in-Some-clause-old c =
    c.record_in.ensures ∙ ap slot_record (c.in_ok-put-in-Some.ensures.old ∙ ap (value_at c.args.slots.now) c.in_ok-from_str-in-Some.ensures.ok) ∙ sym (get-present c.args.slots.now c.args.id.now)

pub returns-in_ok-put-in-Some-clause-ok : goal.returns-in_ok-put-in-Some-clause-ok
returns-in_ok-put-in-Some-clause-ok c =
    ap present c.in_ok-put-in-Some.ensures.ok ∙ present-with_key c.args.slots.now _ (Some (data_of c.in-Some.val))
    ∙ (λ i. set_at (present c.args.slots.now) (c.in_ok-from_str-in-Some.ensures.ok i) (maybe_data (sym c.in-Some.is i)))

pub returns-in-None-clause-ok : goal.returns-in-None-clause-ok
returns-in-None-clause-ok c = c.take_plain.ensures.rest ∙ ap (λ r. set_at (present c.args.slots.now) c.args.id.now (maybe_data r)) (sym c.in-None.is)

pub returns-in_ok-put-in-Some-clause-full : goal.returns-in_ok-put-in-Some-clause-full
returns-in_ok-put-in-Some-clause-full c full = subst AreFull (sym c.in_ok-put-in-Some.ensures.ok) (full-with_key c.args.slots.now _ (data_of c.in-Some.val) full)
