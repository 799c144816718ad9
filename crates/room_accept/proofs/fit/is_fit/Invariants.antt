use Rattle.std.proofs.Common.{◌≡◌, drop}
use Rattle.field_ops.specs.ViewRecordOps.{changes_view}
use Rattle.schema_core.specs.SchemaOf.{schema_tree}
use Rattle.room_model.specs.Accepting.{is_fit}
use Rattle.room_schemas.specs.Decided.{decided}
use Rattle.room_accept.specs.Plans.{plan_of}
use Rattle.room_accept.proofs.fit.is_fit.Given as goal

-- what is left is fit as the whole is
abbrev pub invariant-ids : goal.invariant-ids
invariant-ids l =
    is_fit (decided (schema_tree l.schema)) (plan_of l.plan) (changes_view (drop l.id-index l.id-items))
    ≡ is_fit (decided (schema_tree l.schema)) (plan_of l.plan) (changes_view l.id-items)
