use Rattle.std.proofs.Common.{◌≡◌, [], filter, ap, ◌∙◌}
use Rattle.schema_core.specs.Admits.{is_document}
use Rattle.schema_core.specs.SchemaOf.{schema_tree}
use Rattle.room_accept.specs.Plans.{plan_of}
use Rattle.room_messages.proofs.SnapshotLemmas.{with_states_of, all_states}
use Rattle.room_messages.proofs.snapshot_message.all_documents.Goals as goal

pub returns : goal.returns
returns c = λ first history keeps.
    let kept = c.args.room.now.kept in
    let tree = schema_tree kept.schema in
    let plan = plan_of c.args.plan.now in
    all_states first history kept keeps tree plan (is_document tree) [] c.put_states.new.diff tt
    (c.in_ok-put_states.ensures
    ∙ (λ i. with_states_of tree plan kept.records.0 (c.new-diff.ensures i) ((c.keep_documents.ensures ∙ (λ j. filter (is_document (schema_tree (c.schema.ensures.schema j))) (c.in_ok-ids.ensures j))) i)))
