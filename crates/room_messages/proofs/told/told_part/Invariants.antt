use Rattle.std.proofs.Common.{◌≡◌, ◌++◌, drop}
use Rattle.rooms_val.specs.Maps.{seen}
use Rattle.field_ops.specs.View.{maybe_data}
use Rattle.field_ops.specs.ViewRecordOps.{changes_view}
use Rattle.schema_core.specs.SchemaOf.{schema_tree}
use Rattle.room_schemas.specs.Decided.{decided}
use Rattle.room_accept.specs.Pushes.{member_of}
use Rattle.room_messages.specs.Told.{told_part}
use Rattle.room_messages.proofs.told.told_part.Given as goal

-- what is told so far and what is still to be told come to the whole
abbrev pub invariant-ops : goal.invariant-ops
invariant-ops l =
    l.told ++ told_part (decided (schema_tree l.schema)) (member_of l.member) l.part (changes_view (drop l.place l.ops)) (seen maybe_data (drop l.place l.recent.after.items))
    ≡ told_part (decided (schema_tree l.schema)) (member_of l.member) l.part (changes_view l.ops) (seen maybe_data l.recent.after.items)
