-- What a schema is, as values that share nothing with how the code keeps it.
use Rattle.std.specs.Prelude.{ℕ, List}
use Rattle.record_valid.specs.Tree.{CheckTree}
use Rattle.migrate_steps.specs.declared.migration.Sequence.{Sequence}
use Rattle.schema_core.specs.declared.row.Scope.{Scope}

-- who shares the records of a type, and what such a record must be
pub record TypeTree : Type 0 where
  pub scope : Scope
  pub check : CheckTree

-- names of types, each with what is said of the type
abbrev pub Types : Type 0
Types = List (List ℕ × TypeTree)

-- the types, whose names rise by bytes, and the sequences of migrations in the order of their ids
pub record SchemaTree : Type 0 where
  pub types : Types
  pub sequences : List Sequence
