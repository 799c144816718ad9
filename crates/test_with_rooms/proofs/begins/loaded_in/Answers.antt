use Rattle.schema_core.specs.SchemaOf.{schema_tree}
use Rattle.test_with_rooms.proofs.begins.loaded_in.Goals as goal

pub load-requires-clause-presence : goal.load-requires-clause-presence
load-requires-clause-presence g c = c.tables_have_presences.ensures 3 (schema_tree c.in_ok-schema.schema) c.in_ok-schema.ensures.known
