-- What goes with the records that an edit removes.
use Rattle.std.specs.Prelude.{ℕ, List, [], Bool, true, false, if◌then◌else◌, filter, length}
use Rattle.std.specs.List.{fold}
use Rattle.std.specs.Option.{option_map_or}
use Rattle.rooms_val.specs.Data.{Pairs}
use Rattle.rooms_val.specs.Maps.{value_at, with_key, keys_of}
use Rattle.field_ops.specs.RecordOps.{RecordOpTree, put, patch, remove, RecordOps}
use Rattle.doc_model.specs.Documents.{fold_raw}
use Rattle.side_effects.specs.Reaching.{reaches}
use Rattle.side_effects.specs.Records.{holders_of, has}

abbrev pub is_remove : RecordOpTree → Bool
is_remove (put d) = false
is_remove (patch p) = false
is_remove remove = true

-- the diff removes the record under the id
abbrev pub removes : RecordOps → List ℕ → Bool
removes diff id = option_map_or is_remove (value_at diff id) false

-- what a record of a document hangs on, as it is afterwards
abbrev pub holders : Pairs → Pairs → List ℕ → List (List ℕ)
holders m after id = if has m id then option_map_or (holders_of id) (value_at after id) [] else []

-- the record under the id is removed by the diff, or hangs on one that goes: the least set of which this holds
abbrev pub goes : Pairs → RecordOps → List ℕ → Bool
goes m diff id = reaches (holders m (fold_raw m diff)) (removes diff) (length m) id

-- the diff with a remove for each record that goes
abbrev pub with_removes : Pairs → RecordOps → RecordOps
with_removes m diff = fold (λ all id. with_key all id remove) diff (filter (goes m diff) (keys_of m))
