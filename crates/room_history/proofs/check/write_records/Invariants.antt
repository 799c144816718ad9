use Rattle.std.proofs.Common.{◌≡◌, [], fold, drop}
use Rattle.rooms_val.specs.Maps.{keys_of}
use Rattle.schema_core.specs.SchemaOf.{schema_tree}
use Rattle.room_model.specs.Saves.{unfit_record}
use Rattle.room_schemas.specs.Decided.{decided}
use Rattle.room_history.specs.Loads.{with_saved}
use Rattle.room_history.proofs.check.write_records.Given as goal

-- what is left is asked beside what was written as the whole is beside nothing
abbrev pub invariant-records : goal.invariant-records
invariant-records g l =
    let left = drop l.saved-index l.documents in
    record {
      asked : unfit_record (decided (schema_tree l.schema)) (keys_of l.records.0) left ≡ unfit_record (decided (schema_tree l.schema)) [] l.documents;
      written : fold with_saved l.records.0 left ≡ fold with_saved [] l.documents;
      plain : l.records.1 ≡ [];
    }
