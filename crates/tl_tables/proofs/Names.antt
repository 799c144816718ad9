-- The names of the tables' types.
use Rattle.std.proofs.Common.{◌≡◌, ℕ, List, None, Ok, Err, refl, ap, ◌∙◌}
use Rattle.std.specs.Option.{option_map_or}
use Rattle.migrate_steps.specs.declared.migration.Sequence.{Sequence}
use Rattle.schema_core.specs.Tree.{Types}
use Rattle.schema_core.specs.Builds.{doubled, by_name, built}
use Rattle.schema_core.specs.declared.fault.SchemaFault.TheVariants.{DoubledType}
use Rattle.tl_tables.specs.Types.{document, page, shape, asset, binding, camera, instance, instance_presence, type_rows}

none_doubled : (version : ℕ) → doubled (type_rows version) ≡ None
unfolding type_rows document page shape asset binding camera instance instance_presence
none_doubled version = refl

-- no name stands twice, so that the tables make a schema
pub built_is : (version : ℕ) (rows : Types) (seqs : List Sequence) → rows ≡ type_rows version → built rows seqs ≡ Ok (record { types = by_name (type_rows version); sequences = seqs })
built_is version rows seqs is =
    ap (λ rs. built rs seqs) is
    ∙ ap (λ o. option_map_or (λ name. Err (DoubledType name)) o (Ok (record { types = by_name (type_rows version); sequences = seqs }))) (none_doubled version)
