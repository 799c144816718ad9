use Rattle.std.proofs.Common.{sym, ap, ◌∙◌}
use Rattle.field_ops.specs.RecordOps.{put}
use Rattle.field_ops.specs.ViewRecordOps.{change_of}
use Rattle.schema_core.specs.SchemaOf.{schema_tree}
use Rattle.room_model.specs.Accepting.{with_id, own_presence}
use Rattle.room_schemas.specs.Decided.{decided}
use Rattle.room_accept.specs.Pushes.{member_of}
use Rattle.room_accept.proofs.presence.own_op.Goals as goal

pub returns-in_ok-with_id-in-Put : goal.returns-in_ok-with_id-in-Put
returns-in_ok-with_id-in-Put c =
    ap put (c.in_ok-with_id-in-Put.ensures ∙ (λ i. with_id (c.requires i) (c.in_ok-raised-in-Put.ensures i)))
    ∙ ap (λ o. own_presence (decided (schema_tree c.args.schema.now)) (member_of c.args.member) (change_of o)) (sym c.in-Put.is)
