-- What keeps a record, or a removed id, from following those saved before it.
use Rattle.std.specs.Prelude.{ℕ, List, codes, Bool, not, ◌&&◌, ◌||◌, if◌then◌else◌, Option, Some, None, is_some}
use Rattle.std.specs.Option.{option_map_or}
use Rattle.rooms_val.specs.Data.{Pairs}
use Rattle.rooms_val.specs.Maps.{value_at}
use Rattle.room_model.specs.Saves.{own_id, is_admitted_as}
use Rattle.room_model.specs.Schemas.{Schemas}
use Rattle.room_model.specs.declared.saved.SavedRecord.{SavedRecord}
use Rattle.room_model.specs.declared.saved.SavedTomb.{SavedTomb}

module _ (schemas : Schemas) where
  -- the id with which a saved record is refused beside the records before it, if it is: its own one, and `-` if it says none
  abbrev pub refused_record : Pairs → SavedRecord → Option (List ℕ)
  refused_record earlier saved =
      option_map_or (λ id. if is_admitted_as schemas saved id && not (is_some (value_at earlier id)) then None else Some id) (own_id saved) (Some (codes "-"))

  -- a removed id is one of the document, and is neither among removed ids before it nor one of the records
  abbrev pub is_tomb_fit : Pairs → Pairs → SavedTomb → Bool
  is_tomb_fit earlier records tomb = schemas.is_document tomb.id && not (is_some (value_at earlier tomb.id) || is_some (value_at records tomb.id))
