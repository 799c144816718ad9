-- What is accepted of a push, with what its entry leaves of the records.
use Rattle.std.specs.Prelude.{◌≡◌, ◌≤◌, ◌+◌, ℕ, List, length, map, Bool, true, ◌||◌, Option, Some, is_some}
use Rattle.std.specs.List.{list_all}
use Rattle.rooms_val.specs.Data.{Data, Pairs}
use Rattle.rooms_val.specs.Maps.{value_at, seen}
use Rattle.field_ops.specs.Patched.{raw}
use Rattle.field_ops.specs.RecordOps.{RecordOps}
use Rattle.field_ops.specs.View.{maybe_data}
use Rattle.doc_model.specs.Documents.{fold_raw}
use Rattle.schema_core.specs.Admits.{is_admitted, is_document}
use Rattle.schema_core.specs.Tree.{SchemaTree}
use Rattle.room_model.specs.Schemas.{records_with, presence_id}
use Rattle.room_schemas.specs.Decided.{is_presence}
use Rattle.room_accept.specs.Sizes.{size_of}
use Rattle.room_accept.specs.declared.accepted.Accepted.{Accepted}

-- each operation leaves a record, or takes one away
abbrev pub each_changes : Pairs → RecordOps → Bool
each_changes m diff = list_all (λ c. is_some (raw c.1 (value_at m c.0)) || is_some (value_at m c.0)) diff

-- what each operation of a diff leaves under its id, in a diff in which no id stands twice
abbrev pub left_under : Pairs → RecordOps → List (List ℕ × Option Data)
left_under m diff = map (λ c. (c.0, raw c.1 (value_at m c.0))) diff

-- each record is admitted under its id
abbrev pub AreAdmitted : SchemaTree → Pairs → Type 0
AreAdmitted s m = (id : List ℕ) (d : Data) → value_at m id ≡ Some d → is_admitted s id d ≡ true

-- the ids of sessions' presence are presence to a schema
abbrev pub HasPresences : SchemaTree → Type 0
HasPresences s = (session : ℕ) → is_presence s (presence_id session) ≡ true

-- what was accepted is said of these records
pub record Suits (s : SchemaTree) (m : Pairs) (accepted : Accepted) : Type 0 where
  -- what the entry leaves under each id that it names, and how large the document is then
  pub after : seen maybe_data accepted.after.items ≡ left_under m accepted.entry.diff
  pub size : accepted.size ≡ size_of (is_document s) (fold_raw m accepted.entry.diff)
  pub changing : each_changes m accepted.entry.diff ≡ true
  -- each record stays one that the schema admits
  pub admitted : AreAdmitted s (fold_raw m accepted.entry.diff)
  -- one presence more, at most
  pub presences : length (records_with (is_presence s) (fold_raw m accepted.entry.diff)) ≤ length (records_with (is_presence s) m) + 1
