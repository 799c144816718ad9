-- Whose presences are in a room.
use Rattle.std.specs.Prelude.{◌≡◌, ℕ, List, map, true, is_some, Contains}
use Rattle.rooms_val.specs.Data.{Pairs}
use Rattle.rooms_val.specs.Maps.{value_at}
use Rattle.schema_core.specs.Tree.{SchemaTree}
use Rattle.room_model.specs.Schemas.{presence_id}
use Rattle.room_schemas.specs.Decided.{is_presence}

-- each presence among records is that of one of these sessions
abbrev pub ArePresencesOf : SchemaTree → List ℕ → Pairs → Type 0
ArePresencesOf tree numbers m =
    (id : List ℕ) → is_presence tree id ≡ true → is_some (value_at m id) ≡ true → Contains (map presence_id numbers) id
