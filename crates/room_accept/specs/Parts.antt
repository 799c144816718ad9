-- What is accepted of a diff so far, and what is accepted of one further operation.
use Rattle.std.specs.Prelude.{◌≡◌, ℕ, List, [], ◌∷◌, ◌++◌, Bool, true, ◌&&◌, if◌then◌else◌, Option, Some, None}
use Rattle.std.specs.List.{list_all}
use Rattle.rooms_val.specs.Data.{Data, Pairs}
use Rattle.rooms_val.specs.Maps.{value_at, seen, AreRising}
use Rattle.rooms_val.specs.declared.val.Val.{Val}
use Rattle.field_ops.specs.Patched.{raw}
use Rattle.field_ops.specs.RecordOps.{RecordOpTree, put, patch, remove, RecordOps}
use Rattle.field_ops.specs.View.{maybe_data}
use Rattle.doc_model.specs.Documents.{fold_raw, acts_on}
use Rattle.schema_core.specs.Admits.{is_admitted, is_document}
use Rattle.schema_core.specs.Tree.{SchemaTree}
use Rattle.room_model.specs.Accepting.{is_put_admitted}
use Rattle.room_schemas.specs.Decided.{decided}
use Rattle.room_accept.specs.Sizes.{size_of, size_after, is_within}
use Rattle.room_accept.specs.Suiting.{AreAdmitted, each_changes, left_under}
use Rattle.room_accept.specs.declared.part.Part.{Part}
use Rattle.room_accept.specs.declared.size.DocumentSize.{DocumentSize}

-- what was accepted is said of these records: what each operation left, and how large the document is then
pub record IsPart (s : SchemaTree) (m : Pairs) (part : Part) : Type 0 where
  pub after : seen maybe_data part.after.items ≡ left_under m part.diff
  pub size : part.size ≡ size_of (is_document s) (fold_raw m part.diff)
  pub changing : each_changes m part.diff ≡ true
  pub admitted : AreAdmitted s (fold_raw m part.diff)
  -- no id stands twice
  pub rising : AreRising part.diff

-- each id of a diff is the document's
abbrev pub are_documents : SchemaTree → RecordOps → Bool
are_documents s diff = list_all (λ c. is_document s c.0) diff

-- an operation is accepted on what stands under its id, in a document of this size
abbrev pub is_taken_in : SchemaTree → DocumentSize → List ℕ → RecordOpTree → Option Data → Bool
is_taken_in s size id c r = acts_on (is_admitted s) id c r && is_put_admitted (decided s) id c && is_within (size_after size r (raw c r))

-- what was accepted, and then an operation that is tried, if it is accepted
abbrev pub with_tried : SchemaTree → DocumentSize → RecordOps → List ℕ → RecordOpTree → Option Data → RecordOps
with_tried s size part id c r = if is_taken_in s size id c r then part ++ (id, c) ∷ [] else part

-- what is accepted of what happens to a session's presence, which has its id
abbrev pub own_part : SchemaTree → Pairs → List ℕ → RecordOpTree → Option RecordOpTree
own_part s m id (put d) = Some (put d)
own_part s m id (patch p) = if acts_on (is_admitted s) id (patch p) (value_at m id) then Some (patch p) else None
own_part s m id remove = None

-- what happens to a session's presence is accepted, and leaves this of it
pub record IsOwnLeft (s : SchemaTree) (m : Pairs) (id : List ℕ) (c : RecordOpTree) (left : Option Val) : Type 0 where
  pub accepted : own_part s m id c ≡ Some c
  pub acting : acts_on (is_admitted s) id c (value_at m id) ≡ true
  pub leaves : maybe_data left ≡ raw c (value_at m id)
  pub rising : AreRising m

-- the record is admitted under the id, or there is none
abbrev pub IsStanding : SchemaTree → List ℕ → Option Data → Type 0
IsStanding s id None = Unit {0}
IsStanding s id (Some d) = is_admitted s id d ≡ true
