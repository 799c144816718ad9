-- Fields of maps, some of which are there at some versions alone.
use Rattle.std.specs.Prelude.{ℕ, nat_le, List, [], ◌∷◌, if◌then◌else◌, fold, codes}
use Rattle.record_valid.specs.Tree.{CheckTree, one_of, id_of, dict, object, by_type, Table, rows_of}
use Rattle.rooms_val.specs.Maps.{with_key}
use Rattle.schema_core.specs.Tree.{TypeTree}
use Rattle.schema_core.specs.declared.row.Scope.{Scope}

-- a field, by its name and what its value must be: at every version, from a version on, or up to a version
pub data FieldTree : Type 0 where
  always : List ℕ → CheckTree → FieldTree
  since : ℕ → List ℕ → CheckTree → FieldTree
  until : ℕ → List ℕ → CheckTree → FieldTree

-- a table with a field, where the version has it
unfoldable pub with_field : ℕ → Table → FieldTree → Table
with_field version table (always name check) = with_key table name check
with_field version table (since first name check) = if nat_le first version then with_key table name check else table
with_field version table (until last name check) = if nat_le version last then with_key table name check else table

-- a table with those of some fields that the version has
abbrev pub with_fields : ℕ → Table → List FieldTree → Table
with_fields version table fields = fold (with_field version) table fields

-- a map with exactly these fields
abbrev pub object_at : ℕ → List FieldTree → CheckTree
object_at version fields = object (rows_of (with_fields version [] fields))

-- what the check wants that stands under the text in the field `type`
abbrev pub by_type_at : ℕ → List FieldTree → CheckTree
by_type_at version rows = by_type (rows_of (with_fields version [] rows))

-- what every record of a type has
unfoldable pub own_fields : List ℕ → List FieldTree
own_fields name = always (codes "id") (id_of (name ∷ [])) ∷ always (codes "typeName") (one_of (name ∷ [])) ∷ always (codes "meta") dict ∷ []

-- a type whose records have these fields beside their own
abbrev pub row : ℕ → List ℕ → Scope → List FieldTree → List ℕ × TypeTree
row version name scope fields =
    (name, record { scope = scope; check = object (rows_of (with_fields version (with_fields version [] (own_fields name)) fields)) })
