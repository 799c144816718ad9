-- The diff that brings back what a diff changes, under a rule of which records are admitted under which ids.
use Rattle.std.specs.Prelude.{◌≡◌, ℕ, List, [], ◌∷◌, Bool, true, false, if◌then◌else◌, Option, Some, None}
use Rattle.std.specs.Option.{option_map_or}
use Rattle.rooms_val.specs.Data.{Data, Pairs}
use Rattle.rooms_val.specs.Maps.{value_at, set_at}
use Rattle.field_ops.specs.ValueOps.{Patch}
use Rattle.field_ops.specs.RecordOps.{RecordOpTree, put, patch, remove, RecordOps}
use Rattle.field_ops.specs.Patched.{raw}
use Rattle.field_ops.specs.Inverses.{inverse}
use Rattle.doc_model.specs.Documents.{acts_on, acts}

module _ (admits : List ℕ → Data → Bool) where
  -- what stands under an id after an operation on it, if there is one: the operation is done where it acts
  abbrev pub record_after : List ℕ → Option RecordOpTree → Option Data → Option Data
  record_after id None r = r
  record_after id (Some c) r = if acts_on admits id c r then raw c r else r

  -- the inverse of an operation on the record that stands under an id; none where the operation is passed over
  abbrev pub inverse_on : List ℕ → RecordOpTree → Option Data → Option RecordOpTree
  inverse_on id c r = if acts_on admits id c r then inverse c r else None

  -- the same, of the record that a document has under the id
  abbrev pub inverse_of_op : Pairs → List ℕ → RecordOpTree → Option RecordOpTree
  inverse_of_op document id c = inverse_on id c (value_at document id)

  -- the inverse of a diff in a document: the ids whose operation acts, each with its inverse on what stood there
  abbrev pub inverse_diff : Pairs → RecordOps → RecordOps
  inverse_diff document [] = []
  inverse_diff document (c ∷ diff) = set_at (inverse_diff document diff) c.0 (inverse_of_op document c.0 c.1)

  -- each record that a patch of the diff changes was admitted under its id
  abbrev pub ArePatchedAdmitted : Pairs → RecordOps → Type 0
  ArePatchedAdmitted document diff = (id : List ℕ) (p : Patch) → value_at diff id ≡ Some (patch p) → acts admits document id (patch p) ≡ true
      → option_map_or (admits id) (value_at document id) false ≡ true
