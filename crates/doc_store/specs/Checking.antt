-- Which patches act, if what a diff leaves was looked at before.
use Rattle.std.specs.Prelude.{◌≡◌, ℕ, List, Bool, true, ◌||◌, Some}
use Rattle.rooms_val.specs.Data.{Data, Pairs}
use Rattle.rooms_val.specs.Maps.{value_at}
use Rattle.field_ops.specs.ValueOps.{Patch}
use Rattle.field_ops.specs.RecordOps.{patch, RecordOps}
use Rattle.schema_core.specs.Tree.{SchemaTree}
use Rattle.schema_core.specs.Admits.{is_admitted}
use Rattle.doc_model.specs.Documents.{acts}

-- which records are taken as admitted: all of them, if they were checked before
abbrev pub admits_by : Bool → SchemaTree → List ℕ → Data → Bool
admits_by checked s id d = checked || is_admitted s id d

-- each patch of a diff acts on a document's record
abbrev pub EachPatchActs : (List ℕ → Data → Bool) → Pairs → RecordOps → Type 0
EachPatchActs admits m diff = (id : List ℕ) (p : Patch) → value_at diff id ≡ Some (patch p) → acts admits m id (patch p) ≡ true

-- if a diff counts as checked, each of its patches acts
abbrev pub IsChecked : Bool → (List ℕ → Data → Bool) → Pairs → RecordOps → Type 0
IsChecked checked admits m diff = checked ≡ true → EachPatchActs admits m diff
