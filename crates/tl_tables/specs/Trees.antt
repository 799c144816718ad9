-- What a migration is, as values that share nothing with how the code keeps it.
use Rattle.std.specs.Prelude.{ℕ, List, Bool}
use Rattle.std.specs.Prelude as std
use Rattle.rooms_val.specs.Data.{Data}
use Rattle.rooms_val.specs.View.{data_of}
use Rattle.migrate_steps.specs.declared.migration.Filter.{Filter}
use Rattle.migrate_steps.specs.declared.migration.MigScope.{MigScope}
use Rattle.migrate_steps.specs.declared.migration.Migration.{Migration}
use Rattle.migrate_steps.specs.declared.migration.Sequence.{Sequence}
use Rattle.migrate_steps.specs.declared.step.MigStep.{MigStep}
use Rattle.migrate_steps.specs.declared.step.MigStep.TheVariants.{Add, Remove, Rename, MapEnum, Scale, Nest, Unnest}

-- the keys that lead to a map, from the record on
abbrev pub Path : Type 0
Path = List (List ℕ)

-- the steps, as `MigStep` names them
pub data StepTree : Type 0 where
  add : Path → List ℕ → Data → StepTree
  remove : Path → List ℕ → Data → StepTree
  rename : Path → List ℕ → List ℕ → StepTree
  map_enum : Path → List ℕ → List (List ℕ × List ℕ) → StepTree
  scale : Path → List ℕ → ℕ → StepTree
  nest : Path → List (List ℕ) → List ℕ → StepTree
  unnest : Path → List (List ℕ) → List ℕ → StepTree

pub record MigrationTree : Type 0 where
  pub id : List ℕ
  pub scope : MigScope
  pub filter : Filter
  pub steps : List StepTree
  pub has_down : Bool
  pub depends : List (List ℕ)

pub record SequenceTree : Type 0 where
  pub id : List ℕ
  pub retroactive : Bool
  pub migrations : List MigrationTree

-- what a step stands for
abbrev pub step_tree : MigStep → StepTree
step_tree (Add path key v) = add path.items key (data_of v)
step_tree (Remove path key v) = remove path.items key (data_of v)
step_tree (Rename path old new) = rename path.items old new
step_tree (MapEnum path key pairs) = map_enum path.items key pairs.items
step_tree (Scale path key factor) = scale path.items key factor
step_tree (Nest path keys into) = nest path.items keys.items into
step_tree (Unnest path keys into) = unnest path.items keys.items into

-- what a migration stands for
abbrev pub migration_tree : Migration → MigrationTree
migration_tree m = record { id = m.id; scope = m.scope; filter = m.filter; steps = std.map step_tree m.steps.items; has_down = m.has_down; depends = m.depends.items }

-- what a sequence stands for
abbrev pub sequence_tree : Sequence → SequenceTree
sequence_tree s = record { id = s.id; retroactive = s.retroactive; migrations = std.map migration_tree s.migrations.items }
