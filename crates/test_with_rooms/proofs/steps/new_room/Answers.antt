use Rattle.schema_core.specs.SchemaOf.{schema_tree}
use Rattle.test_with_rooms.proofs.steps.new_room.Goals as goal

pub new-requires-clause-presence : goal.new-requires-clause-presence
new-requires-clause-presence c = c.tables_have_presences.ensures 3 (schema_tree c.in_ok-schema.schema) c.in_ok-schema.ensures.known
