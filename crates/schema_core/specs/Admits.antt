-- Which records are admitted under which ids, and what keeps the others from it.
use Rattle.std.specs.Prelude.{◌≡◌, ◌≤◌, ℕ, nat_le, List, [], ◌∷◌, Bool, true, false, ◌&&◌, if◌then◌else◌, Option, Some, None, option_map, option_and_then, Result, Ok, Err, is_ok, IsSomeAnd, codes}
use Rattle.std.specs.Result.{result_err}
use Rattle.std.specs.Option.{option_map_or}
use Rattle.rooms_val.specs.Data.{Data, text}
use Rattle.rooms_val.specs.Kinds.{field, as_text}
use Rattle.rooms_val.specs.Maps.{value_at}
use Rattle.rooms_val.specs.Weight.{weight}
use Rattle.record_valid.specs.Ids.{type_part, IsIdOf}
use Rattle.record_valid.specs.Fits.{Fits}
use Rattle.record_valid.specs.Faults as check
use Rattle.migrate_steps.specs.Records.{has_text}
use Rattle.schema_core.specs.Tree.{TypeTree, SchemaTree}
use Rattle.schema_core.specs.declared.row.Scope.{Scope}
use Rattle.schema_core.specs.declared.row.Scope.TheVariants.{Document, Session, Presence}
use Rattle.schema_core.specs.declared.fault.RecordFault.{RecordFault}
use Rattle.schema_core.specs.declared.fault.RecordFault.TheVariants.{BadId, UnknownType, Rejected, TooHeavy}
use Rattle.schema_core.specs.declared.schema.TheConstants.{GREATEST_WEIGHT}

-- the type of the records under an id, and none where the text is no id of a known type
abbrev pub type_of : SchemaTree → List ℕ → Option TypeTree
type_of s id = option_and_then (value_at s.types) (type_part id)

-- the scope of the records under an id
abbrev pub scope_of : SchemaTree → List ℕ → Option Scope
scope_of s id = option_map (λ t. t.scope) (type_of s id)

-- records of this scope make up the document
abbrev pub is_of_document : Option Scope → Bool
is_of_document None = false
is_of_document (Some Document) = true
is_of_document (Some Session) = false
is_of_document (Some Presence) = false

-- an id is one of the document's
abbrev pub is_document : SchemaTree → List ℕ → Bool
is_document s id = is_of_document (scope_of s id)

-- the record's `id` is the id, and its `typeName` is this name
abbrev pub has_id_and_type : List ℕ → List ℕ → Data → Bool
has_id_and_type id name d = has_text id (field d (codes "id")) && has_text name (field d (codes "typeName"))

-- the name that an id begins with, where the record has the id and that name as its own
abbrev pub own_type : List ℕ → Data → Option (List ℕ)
own_type id d = option_and_then (λ name. if has_id_and_type id name d then Some name else None) (type_part id)

-- the scope of a record by what is said of its type, or what is wrong with it
abbrev pub admission_by : Data → TypeTree → Result Scope RecordFault
admission_by d t = option_map_or (λ reject. Err (Rejected reject)) (check.first_fault 0 None t.check d) (if nat_le (weight d) GREATEST_WEIGHT then Ok t.scope else Err TooHeavy)

-- the scope of a record that is admitted under an id, or the first of the four refusals
abbrev pub admission : SchemaTree → List ℕ → Data → Result Scope RecordFault
admission s id d = option_map_or (λ name. option_map_or (admission_by d) (value_at s.types name) (Err UnknownType)) (own_type id d) (Err BadId)

-- the first of the four refusals
abbrev pub first_fault : SchemaTree → List ℕ → Data → Option RecordFault
first_fault s id d = result_err (admission s id d)

-- none of the four refusals applies
abbrev pub is_admitted : SchemaTree → List ℕ → Data → Bool
is_admitted s id d = is_ok (admission s id d)

-- the record is admitted under the id
pub record IsAdmitted (s : SchemaTree) (id : List ℕ) (d : Data) : Type 0 where
  -- its `id` is the id, which is one of the type that its `typeName` names
  pub own : field d (codes "id") ≡ Some (text id)
  pub typed : IsSomeAnd (option_and_then as_text (field d (codes "typeName"))) (λ name. IsIdOf (name ∷ []) id)
  -- the type is known, and the record fits its check
  pub fits : IsSomeAnd (type_of s id) (λ t. Fits None t.check d)
  pub light : weight d ≤ GREATEST_WEIGHT
