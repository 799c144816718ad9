-- There is a schema at each version of the tables.
use Rattle.std.proofs.Common.{◌≡◌, ℕ, map, refl}
use Rattle.rooms_val.specs.View.{val_of}
use Rattle.migrate_steps.specs.declared.migration.Migration.{Migration}
use Rattle.migrate_steps.specs.declared.migration.Sequence.{Sequence}
use Rattle.migrate_steps.specs.declared.step.MigStep.{MigStep}
use Rattle.migrate_steps.specs.declared.step.MigStep.TheVariants.{Add, Remove, Rename, MapEnum, Scale, Nest, Unnest}
use Rattle.schema_core.specs.Builds.{by_name}
use Rattle.schema_core.specs.Tree.{SchemaTree}
use Rattle.tl_tables.specs.Migrations.{asset_1, base_1, binding_1, page_1, shape_1, shape_2, sequence_at, asset, base, binding, page, shape, sequences}
use Rattle.tl_tables.specs.Tables.{IsSchemaAt}
use Rattle.tl_tables.specs.Trees.{StepTree, MigrationTree, SequenceTree, sequence_tree, add, remove, rename, map_enum, scale, nest, unnest}
use Rattle.tl_tables.specs.Types.{type_rows}
use Rattle.tl_tables.specs.declared.tables.TheConstants.{NEWEST_VERSION}
use Rattle.tl_tables.proofs.Built.{UpTo, by_version}
use Rattle.replay_job.proofs.VecLemmas.{vec_of}

abbrev step_of : StepTree → MigStep
step_of (add path key d) = Add (vec_of path) key (val_of d)
step_of (remove path key d) = Remove (vec_of path) key (val_of d)
step_of (rename path old new) = Rename (vec_of path) old new
step_of (map_enum path key pairs) = MapEnum (vec_of path) key (vec_of pairs)
step_of (scale path key factor) = Scale (vec_of path) key factor
step_of (nest path keys into) = Nest (vec_of path) (vec_of keys) into
step_of (unnest path keys into) = Unnest (vec_of path) (vec_of keys) into

abbrev migration_of : MigrationTree → Migration
migration_of m = record { id = m.id; scope = m.scope; filter = m.filter; steps = vec_of (map step_of m.steps); has_down = m.has_down; depends = vec_of m.depends }

abbrev sequence_of : SequenceTree → Sequence
sequence_of s = record { id = s.id; retroactive = s.retroactive; migrations = vec_of (map migration_of s.migrations) }

-- the sequences that are made of those of the tables stand for them
each_stands : UpTo (λ n. map sequence_tree (map sequence_of (sequences n)) ≡ sequences n) NEWEST_VERSION
unfolding sequences asset base binding page shape sequence_at asset_1 base_1 binding_1 page_1 shape_1 shape_2
each_stands = (((((refl, refl), refl), refl), refl), refl)

pub schema_found : (version : ℕ) → (s : SchemaTree) × IsSchemaAt version s
schema_found version = (
  record { types = by_name (type_rows version); sequences = map sequence_of (sequences version) },
  record { types = refl; sequences_are = by_version (λ ts. map sequence_tree (map sequence_of ts) ≡ ts) each_stands version },
)
