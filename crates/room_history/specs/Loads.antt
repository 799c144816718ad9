-- What a room that begins from a saved one keeps.
use Rattle.std.specs.Prelude.{[], map, fold, sum, length}
use Rattle.std.specs.Option.{option_map_or}
use Rattle.rooms_val.specs.Data.{Pairs}
use Rattle.rooms_val.specs.Maps.{with_key}
use Rattle.rooms_val.specs.View.{data_of}
use Rattle.rooms_val.specs.Weight.{weight}
use Rattle.room_accept.specs.declared.size.DocumentSize.{DocumentSize}
use Rattle.room_model.specs.Saves.{own_id}
use Rattle.room_model.specs.declared.saved.SavedRecord.{SavedRecord}
use Rattle.room_model.specs.declared.saved.SavedRoom.{SavedRoom}

-- records with a saved one under the id that it says, if it says one
abbrev pub with_saved : Pairs → SavedRecord → Pairs
with_saved m saved = option_map_or (λ id. with_key m id (data_of saved.record)) (own_id saved) m

-- the records of a saved room by id
abbrev pub records_in : SavedRoom → Pairs
records_in saved = fold with_saved [] saved.documents.items

-- how large its document is
abbrev pub size_in : SavedRoom → DocumentSize
size_in saved = record { count = length saved.documents.items; weight = sum (map (λ r. weight (data_of r.record)) saved.documents.items) }
