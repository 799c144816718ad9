-- The schema of the tables.
use Rattle.std.specs.Prelude.{◌≡◌, ◌≤◌, ℕ, map}
use Rattle.schema_core.specs.Tree.{SchemaTree}
use Rattle.schema_core.specs.Builds.{by_name}
use Rattle.tl_tables.specs.declared.tables.TheConstants.{NEWEST_VERSION}
use Rattle.tl_tables.specs.Types.{type_rows}
use Rattle.tl_tables.specs.Trees.{sequence_tree}
use Rattle.tl_tables.specs.Migrations.{sequences}

-- the tables have the version
abbrev pub IsVersion : ℕ → Type 0
IsVersion version = (1 ≤ version) × (version ≤ NEWEST_VERSION)

-- the schema has the types and the sequences of the tables at a version
pub record IsSchemaAt (version : ℕ) (s : SchemaTree) : Type 0 where
  pub types : s.types ≡ by_name (type_rows version)
  pub sequences_are : map sequence_tree s.sequences ≡ sequences version
