use Rattle.std.proofs.Common.{w64, ◌≡◌, ℕ, List, ◌+◌, not, filter, ap, ◌∙◌}
use Rattle.std.specs.Str.{bytes_eq}
use Rattle.std.proofs.lemmas.Int.{to_z-of_z}
use Rattle.schema_core.specs.SchemaOf.{schema_tree}
use Rattle.room_model.specs.Schemas.{is_own}
use Rattle.room_accept.specs.Plans.{plan_of}
use Rattle.room_messages.proofs.IdLemmas.{as_many}
use Rattle.room_messages.proofs.SnapshotLemmas.{with_states_of, changed_states}
use Rattle.room_messages.proofs.updates_message.changes_of_others.Goals as goal

pub returns-clause-diff : goal.returns-clause-diff
returns-clause-diff g c = λ first history told keeps is from.
    let kept = c.args.room.now.kept in
    let tree = schema_tree kept.schema in
    let plan = plan_of c.args.member.plan.now in
    let ids = c.in_ok-ids.ids.items in
    changed_states first history kept keeps tree plan (λ id. not (is_own c.args.member.session id)) told ids c.put_states.new.diff (c.in_ok-ids.ensures.changed first history told keeps (to_z-of_z w64 c.args.sent c.ranges.sent ∙ is) from)
    (c.in_ok-put_states.ensures
    ∙ (λ i. with_states_of tree plan kept.records.0 (c.new-diff.ensures i) ((c.drop_own.ensures ∙ ap (λ (own : List ℕ). filter (λ id. not (bytes_eq id own)) ids) c.in_ok-own.ensures) i)))

pub returns-clause-ticks : goal.returns-clause-ticks
returns-clause-ticks g c = λ first history told keeps is from.
    c.in_ok-ids.ensures.ticked ∙ ap (λ n. c.args.steps.now + (n + 1)) (as_many told history c.in_ok-ids.ids.items (c.in_ok-ids.ensures.changed first history told keeps (to_z-of_z w64 c.args.sent c.ranges.sent ∙ is) from))
