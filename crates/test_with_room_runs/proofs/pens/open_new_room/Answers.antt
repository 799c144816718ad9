use Rattle.std.proofs.Common.{refl}
use Rattle.schema_core.specs.SchemaOf.{schema_tree}
use Rattle.test_with_room_runs.proofs.pens.open_new_room.Goals as goal

pub new-requires-clause-presence : goal.new-requires-clause-presence
new-requires-clause-presence c = c.tables_have_presences.ensures 3 (schema_tree c.in_ok-schema.schema) c.in_ok-schema.ensures.known

-- nothing has happened in a new room
pub open-requires : goal.open-requires
open-requires c = (1000000, c.in_ok-room.ensures.stands 1000000 refl)
