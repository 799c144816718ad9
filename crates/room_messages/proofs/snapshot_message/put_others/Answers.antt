use Rattle.std.proofs.Common.{◌≡◌, ap, subst, ◌∙◌}
use Rattle.std.proofs.lemmas.Result.{on_ok_weaker}
use Rattle.schema_core.specs.SchemaOf.{schema_tree}
use Rattle.room_accept.specs.Plans.{plan_of}
use Rattle.room_accept.specs.Suiting.{HasPresences}
use Rattle.room_messages.proofs.SnapshotLemmas.{with_states_of, other_states}
use Rattle.room_messages.proofs.snapshot_message.put_others.Goals as goal

pub returns : goal.returns
returns c =
    on_ok_weaker c.put_states.result (λ is first history keeps are.
    let kept = c.args.room.now.kept in
    let tree = schema_tree kept.schema in
    let plan = plan_of c.args.member.plan.now in
    let presences : HasPresences tree = subst (λ s. HasPresences (schema_tree s)) c.schema.ensures.schema c.schema.ensures.presence in
    other_states first history kept keeps tree plan c.args.member.session c.args.present.now c.args.diff.now c.put_states.new.diff presences c.len.ensures.sound.0 are
    (is ∙ ap (with_states_of tree plan kept.records.0 c.args.diff.now) c.in_ok-ids.ensures)) c.put_states.ensures
