use Rattle.std.proofs.Common.{◌≡◌, [], ◌++◌, drop}
use Rattle.rooms_val.specs.Maps.{keys_of}
use Rattle.schema_core.specs.SchemaOf.{schema_tree}
use Rattle.room_model.specs.Saves.{unfit_tomb}
use Rattle.room_schemas.specs.Decided.{decided}
use Rattle.room_history.proofs.check.check_tombs.Given as goal

-- what is left is asked beside the ids before it as the whole is beside the records alone
abbrev pub invariant-tombs : goal.invariant-tombs
invariant-tombs g l =
    record {
      asked : unfit_tomb (decided (schema_tree l.schema)) (keys_of l.earlier.0 ++ keys_of l.records.0) (drop l.tomb-index l.tombstones) ≡ unfit_tomb (decided (schema_tree l.schema)) (keys_of l.records.0) l.tombstones;
      plain : l.earlier.1 ≡ [];
    }
