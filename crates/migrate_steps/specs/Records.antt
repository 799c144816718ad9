-- What migrations make of a record, up and down.
use Rattle.std.specs.Prelude.{ℕ, List, [], ◌∷◌, Bool, true, false, ◌&&◌, if◌then◌else◌, Option, Some, None, fold, codes}
use Rattle.std.specs.Str.{bytes_eq}
use Rattle.rooms_val.specs.Data.{Data, null, boolean, whole, text, list, map, Pairs}
use Rattle.rooms_val.specs.Kinds.{field}
use Rattle.rooms_val.specs.Maps.{seen}
use Rattle.migrate_steps.specs.declared.migration.Filter.{Filter}
use Rattle.migrate_steps.specs.declared.migration.Filter.TheVariants.{All, Type_, Kind}
use Rattle.migrate_steps.specs.declared.migration.Migration.{Migration}
use Rattle.migrate_steps.specs.declared.step.MigStep.{MigStep}
use Rattle.migrate_steps.specs.declared.step.Way.{Way}
use Rattle.migrate_steps.specs.declared.step.Way.TheVariants.{Up, Down}
use Rattle.migrate_steps.specs.Steps.{stepped}

-- what was looked up is this text
abbrev pub has_text : List ℕ → Option Data → Bool
has_text s (Some (text t)) = bytes_eq t s
has_text s (Some null) = false
has_text s (Some (boolean b)) = false
has_text s (Some (whole z)) = false
has_text s (Some (list ds)) = false
has_text s (Some (map ms)) = false
has_text s None = false

-- the filter lets the record through
abbrev pub passes : Filter → Data → Bool
passes All d = true
passes (Type_ name) d = has_text name (field d (codes "typeName"))
passes (Kind name kind) d = has_text name (field d (codes "typeName")) && has_text kind (field d (codes "type"))

-- a record after some steps up, in their order
abbrev pub raised : List MigStep → Data → Data
raised steps d = fold (λ e s. stepped Up s e) d steps

-- a record after some steps down, the last one first
abbrev pub lowered : List MigStep → Data → Data
lowered [] d = d
lowered (s ∷ steps) d = stepped Down s (lowered steps d)

abbrev pub through : Way → List MigStep → Data → Data
through Up steps d = raised steps d
through Down steps d = lowered steps d

-- a record after a migration: its steps, where the filter lets it through
abbrev pub migrated : Way → Migration → Data → Data
migrated way m d = if passes m.filter d then through way m.steps.items d else d

-- a record after some migrations up, in their order
abbrev pub raised_along : List Migration → Data → Data
raised_along ms d = fold (λ e m. migrated Up m e) d ms

-- a record after some migrations down, the last one first
abbrev pub lowered_along : List Migration → Data → Data
lowered_along [] d = d
lowered_along (m ∷ ms) d = migrated Down m (lowered_along ms d)

-- a map of records after a migration up: each that its filter lets through after its steps, whatever its scope
abbrev pub raised_each : Migration → Pairs → Pairs
raised_each m ps = seen (migrated Up m) ps

-- a map of records after some migrations up, in their order, each on the map that the one before it left
abbrev pub raised_map : List Migration → Pairs → Pairs
raised_map ms ps = fold (λ qs m. raised_each m qs) ps ms
