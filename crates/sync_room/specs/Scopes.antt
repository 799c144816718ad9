-- The two parts of a room's records.
use Rattle.std.specs.Prelude.{ℕ, List, Bool, if◌then◌else◌}
use Rattle.schema_core.specs.Admits.{is_document}
use Rattle.schema_core.specs.Tree.{SchemaTree}
use Rattle.room_schemas.specs.Decided.{is_presence}

-- an id is of the presence of sessions, or else of the document
abbrev pub is_of_part : SchemaTree → Bool → List ℕ → Bool
is_of_part s presence id = if presence then is_presence s id else is_document s id
