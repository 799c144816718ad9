-- What is saved of a room: the history with which a room begins from it, and what keeps a room from beginning so.
use Rattle.std.specs.Prelude.{ℕ, zero, suc, nat_abs, nat_lt, ◌==◌, ℤ, pos, int_le, int_lt, List, [], ◌∷◌, length, map, fold, sum, filter_map, codes, Bool, not, ◌&&◌, ◌||◌, if◌then◌else◌, Option, Some, None, option_and_then}
use Rattle.std.specs.List.{list_all, list_any}
use Rattle.std.specs.Option.{option_map_or, option_or}
use Rattle.rooms_val.specs.Kinds.{field, as_text}
use Rattle.rooms_val.specs.Maps.{ties, with_key}
use Rattle.rooms_val.specs.View.{data_of}
use Rattle.rooms_val.specs.Weight.{weight}
use Rattle.field_ops.specs.RecordOps.{RecordOps, put, remove}
use Rattle.room_model.specs.Schemas.{Schemas}
use Rattle.room_model.specs.Histories.{History}
use Rattle.room_model.specs.Rooms.{Room}
use Rattle.room_model.specs.declared.limits.TheConstants.{MOST_RECORDS, MOST_WEIGHT, MOST_DEAD}
use Rattle.room_model.specs.declared.load_fault.LoadFault.{LoadFault}
use Rattle.room_model.specs.declared.load_fault.LoadFault.TheVariants.{Clocks, BadRecord, TooLarge}
use Rattle.room_model.specs.declared.saved.SavedRecord.{SavedRecord}
use Rattle.room_model.specs.declared.saved.SavedRoom.{SavedRoom}
use Rattle.room_model.specs.declared.saved.SavedTomb.{SavedTomb}

-- the id that a saved record says, if it says one
abbrev pub own_id : SavedRecord → Option (List ℕ)
own_id saved = option_and_then as_text (field (data_of saved.record) (codes "id"))

-- a diff that also puts a saved record under its id, if the record is of a clock
abbrev pub with_record : ℕ → RecordOps → SavedRecord → RecordOps
with_record clock diff saved = if nat_abs saved.clock == clock then option_map_or (λ id. with_key diff id (put (data_of saved.record))) (own_id saved) diff else diff

-- a diff that also removes a saved id, if its removal is of a clock
abbrev pub with_tomb : ℕ → RecordOps → SavedTomb → RecordOps
with_tomb clock diff tomb = if nat_abs tomb.clock == clock then with_key diff tomb.id remove else diff

-- what a room that begins from a saved one did at a clock: it put the records of that clock, then removed the ids of that clock
abbrev pub diff_at : SavedRoom → ℕ → RecordOps
diff_at saved clock = fold (with_tomb clock) (fold (with_record clock) [] saved.documents.items) saved.tombstones.items

-- its history up to a clock: an entry for each clock, none of which has an author
abbrev pub begun_to : SavedRoom → ℕ → History
begun_to saved zero = []
begun_to saved (suc clock) = record { diff = diff_at saved (suc clock); author = None } ∷ begun_to saved clock

-- the history with which a room begins from a saved one
abbrev pub begun : SavedRoom → History
begun saved = begun_to saved (nat_abs saved.clock)

-- a room that begins from a saved one, which nobody has entered
abbrev pub begun_room : ℕ → SavedRoom → Room
begun_room last saved = record { first = nat_abs saved.start; last = last; history = begun saved; sessions = [] }

-- the clocks of a saved room fit together, and its clock is below a last one
abbrev pub are_clocks : ℤ → SavedRoom → Bool
are_clocks last saved =
    int_le (pos 0) saved.start && int_le saved.start saved.clock && int_lt saved.clock last
    && list_all (λ r. int_le (pos 1) r.clock && int_le r.clock saved.clock) saved.documents.items
    && list_all (λ t. int_lt saved.start t.clock && int_le t.clock saved.clock) saved.tombstones.items

-- an id is among others
abbrev pub is_among : List (List ℕ) → List ℕ → Bool
is_among ids id = list_any (λ other. ties other id) ids

-- a saved room has too many records, records that weigh more together than a document may, or too many removed ids
abbrev pub is_too_large : SavedRoom → Bool
is_too_large saved =
    nat_lt MOST_RECORDS (length saved.documents.items)
    || nat_lt MOST_WEIGHT (sum (map (λ r. weight (data_of r.record)) saved.documents.items))
    || nat_lt MOST_DEAD (length saved.tombstones.items)

module _ (schemas : Schemas) where
  -- a saved record is admitted to the document under an id
  abbrev pub is_admitted_as : SavedRecord → List ℕ → Bool
  is_admitted_as saved id = schemas.is_document id && schemas.admits id (data_of saved.record)

  -- the first of saved records that isn't admitted to the document under the id that it says, or whose id is among earlier ones: that
  -- id, and `-` if it says none
  abbrev pub unfit_record : List (List ℕ) → List SavedRecord → Option (List ℕ)
  unfit_record earlier [] = None
  unfit_record earlier (saved ∷ more) =
      option_map_or (λ id. if is_admitted_as saved id && not (is_among earlier id) then unfit_record (id ∷ earlier) more else Some id)
      (own_id saved) (Some (codes "-"))

  -- the first of removed ids that isn't one of the document, or is among earlier ones
  abbrev pub unfit_tomb : List (List ℕ) → List SavedTomb → Option (List ℕ)
  unfit_tomb earlier [] = None
  unfit_tomb earlier (tomb ∷ more) =
      if schemas.is_document tomb.id && not (is_among earlier tomb.id) then unfit_tomb (tomb.id ∷ earlier) more else Some tomb.id

  -- the first of both, records before removed ids
  abbrev pub unfit : SavedRoom → Option (List ℕ)
  unfit saved =
      option_or (unfit_record [] saved.documents.items) (unfit_tomb (filter_map own_id saved.documents.items) saved.tombstones.items)

  -- why no room begins from a saved one with a last clock, if none does
  abbrev pub load_fault : ℤ → SavedRoom → Option LoadFault
  load_fault last saved =
      if not (are_clocks last saved) then Some Clocks
      else option_map_or (λ id. Some (BadRecord id)) (unfit saved) (if is_too_large saved then Some TooLarge else None)
