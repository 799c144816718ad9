use Rattle.std.proofs.Common.{ap, sym, subst, ◌∙◌}
use Rattle.doc_store.specs.Slots.{slot_record, present, AreFull}
use Rattle.doc_store.proofs.SlotLaws.{get-present, present-without_key}
use Rattle.doc_store.proofs.Fullness.{full-without_key}
use Rattle.doc_store.proofs.journal.take_plain.Goals as goal

pub returns-clause-old : goal.returns-clause-old
returns-clause-old c = c.record_in.ensures ∙ ap slot_record c.take.ensures.old ∙ sym (get-present c.args.slots.now c.args.id.now)

pub returns-clause-rest : goal.returns-clause-rest
returns-clause-rest c = ap present c.take.ensures.rest ∙ present-without_key c.args.slots.now c.args.id.now

pub returns-clause-full : goal.returns-clause-full
returns-clause-full c full = subst AreFull (sym c.take.ensures.rest) (full-without_key c.args.slots.now c.args.id.now full)
