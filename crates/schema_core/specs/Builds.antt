-- Which rows of types make a schema.
use Rattle.std.specs.Prelude.{ℕ, List, [], ◌∷◌, ◌++◌, if◌then◌else◌, Option, Some, None, Result, Ok, Err, fold}
use Rattle.std.specs.Option.{option_map_or}
use Rattle.migrate_steps.specs.declared.migration.Sequence.{Sequence}
use Rattle.rooms_val.specs.Maps.{with_key, keys_of}
use Rattle.record_valid.specs.Parts.{is_listed}
use Rattle.schema_core.specs.Tree.{Types, SchemaTree}
use Rattle.schema_core.specs.declared.fault.SchemaFault.{SchemaFault}
use Rattle.schema_core.specs.declared.fault.SchemaFault.TheVariants.{DoubledType}

-- the first name that stood before, among those before the list too
abbrev pub doubled_after : List (List ℕ) → List (List ℕ) → Option (List ℕ)
doubled_after before [] = None
doubled_after before (name ∷ names) = if is_listed before name then Some name else doubled_after (before ++ name ∷ []) names

abbrev pub doubled : Types → Option (List ℕ)
doubled rows = doubled_after [] (keys_of rows)

-- the types in the order of their names
abbrev pub by_name : Types → Types
by_name rows = fold (λ types r. with_key types r.0 r.1) [] rows

-- the types in the order of their names, or the first name that stood before
abbrev pub types_by_name : Types → Result Types SchemaFault
types_by_name rows = option_map_or (λ name. Err (DoubledType name)) (doubled rows) (Ok (by_name rows))

-- the schema of these types and sequences, or the first name that stood before
abbrev pub built : Types → List Sequence → Result SchemaTree SchemaFault
built rows sequences = option_map_or (λ name. Err (DoubledType name)) (doubled rows) (Ok (record { types = by_name rows; sequences = sequences }))
