use Rattle.std.proofs.Common.{w64, ◌≡◌, ◌+◌, filter, ap, ◌∙◌}
use Rattle.std.proofs.lemmas.Int.{to_z-of_z}
use Rattle.schema_core.specs.Admits.{is_document}
use Rattle.schema_core.specs.SchemaOf.{schema_tree}
use Rattle.room_accept.specs.Plans.{plan_of}
use Rattle.room_messages.proofs.IdLemmas.{as_many}
use Rattle.room_messages.proofs.SnapshotLemmas.{with_states_of, changed_states}
use Rattle.room_messages.proofs.snapshot_message.changed_documents.Goals as goal

pub returns-clause-diff : goal.returns-clause-diff
returns-clause-diff g c = λ first history known keeps is from.
    let kept = c.args.room.now.kept in
    let tree = schema_tree kept.schema in
    let plan = plan_of c.args.plan.now in
    let ids = c.in_ok-ids.ids.items in
    changed_states first history kept keeps tree plan (is_document tree) known ids c.put_states.new.diff (c.in_ok-ids.ensures.changed first history known keeps (to_z-of_z w64 c.args.clock c.ranges.clock ∙ is) from)
    (c.in_ok-put_states.ensures
    ∙ (λ i. with_states_of tree plan kept.records.0 (c.new-diff.ensures i) ((c.keep_documents.ensures ∙ ap (λ s. filter (is_document (schema_tree s)) ids) c.schema.ensures.schema) i)))

pub returns-clause-ticks : goal.returns-clause-ticks
returns-clause-ticks g c = λ first history known keeps is from.
    c.in_ok-ids.ensures.ticked ∙ ap (λ n. c.args.steps.now + (n + 1)) (as_many known history c.in_ok-ids.ids.items (c.in_ok-ids.ensures.changed first history known keeps (to_z-of_z w64 c.args.clock c.ranges.clock ∙ is) from))
