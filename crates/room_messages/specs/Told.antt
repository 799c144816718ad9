-- What a session is told of an entry, by what stood under the entry's ids after it.
use Rattle.std.specs.Prelude.{◌≡◌, ℕ, ◌≤◌, ◌==◌, ℤ, pos, List, [], ◌∷◌, Bool, true, false, not, ◌&&◌, ◌||◌, if◌then◌else◌, Option, Some, None, int_lt}
use Rattle.std.specs.Option.{option_map_or}
use Rattle.rooms_val.specs.Data.{Data}
use Rattle.field_ops.specs.RecordOps.{RecordOpTree, put, remove, RecordOps}
use Rattle.schema_core.specs.SchemaOf.{schema_tree}
use Rattle.room_schemas.specs.Decided.{decided}
use Rattle.room_history.specs.Entries.{RecentTree}
use Rattle.room_history.specs.declared.kept.Kept.{Kept}
use Rattle.room_model.specs.Schemas.{Schemas, Plan, Member, is_own}
use Rattle.room_model.specs.Histories.{History}
use Rattle.room_model.specs.Acting.{document_ops, IsActionOf}
use Rattle.room_model.specs.declared.history.Author.{Author}
use Rattle.room_model.specs.declared.history.Entry.{Entry}
use Rattle.room_messages.specs.declared.told.Part.{Part}
use Rattle.room_messages.specs.declared.told.Part.TheVariants.{Whole, Document}
use Rattle.sync_msgs.specs.declared.data_event.Action.{Action}
use Rattle.sync_msgs.specs.declared.data_event.Action.TheVariants.{Commit, Discard, Rebase}
use Rattle.sync_msgs.specs.declared.data_event.DataEvent.{DataEvent}
use Rattle.sync_msgs.specs.declared.data_event.DataEvent.TheVariants.{Patch, PushResult}

module _ (schemas : Schemas) where
  -- a put of a record as a session sees it, or a remove where there is none
  abbrev pub state_of : Plan → Option Data → RecordOpTree
  state_of plan r = option_map_or (λ d. put (schemas.lower plan d)) r remove

  -- an operation as a session is told it, by what stood under its id afterwards
  abbrev pub told_of : Plan → Option Data → RecordOpTree → RecordOpTree
  told_of [] r c = c
  told_of (place ∷ plan) r c = state_of (place ∷ plan) r

  -- whether an id is in a part of a diff
  abbrev pub is_in : Part → List ℕ → Bool
  is_in Whole id = true
  is_in Document id = schemas.is_document id

  -- whether a session is told of an id in a part of a diff: not of its own presence
  abbrev pub is_told : Member → Part → List ℕ → Bool
  is_told member part id = not (is_own member.session id) && is_in part id

  -- a part of a diff as a session is told it, by what stood under each of the diff's ids afterwards
  abbrev pub told_part : Member → Part → RecordOps → List (List ℕ × Option Data) → RecordOps
  told_part member part [] after = []
  told_part member part (c ∷ diff) [] = []
  told_part member part (c ∷ diff) (r ∷ after) =
      if is_told member part c.0 then (c.0, told_of member.plan r.1 c.1) ∷ told_part member part diff after
      else told_part member part diff after

  -- the action of a push, of which a rebase says the document's part of the entry's diff
  abbrev pub told_result : Member → RecordOps → List (List ℕ × Option Data) → Action → Action
  told_result member diff after Commit = Commit
  told_result member diff after Discard = Discard
  told_result member diff after (Rebase accepted) = Rebase (told_part member Document diff after)

  -- an entry with this diff and author, at its clock
  abbrev pub told_by : Member → RecordOps → List (List ℕ × Option Data) → ℤ → Option Author → DataEvent
  told_by member diff after clock None = Patch (told_part member Whole diff after) clock
  told_by member diff after clock (Some author) =
      if author.session == member.session then PushResult author.client_clock clock (told_result member diff after author.action)
      else Patch (told_part member Whole diff after) clock

  -- one of the last entries so
  abbrev pub told_entry : Member → RecentTree → DataEvent
  told_entry member recent = told_by member recent.entry.diff recent.after recent.clock recent.entry.author

  -- the action of each entry is that of the document's part of its diff
  abbrev pub HasOwnActions : History → Type 0
  HasOwnActions [] = Unit {0}
  HasOwnActions (entry ∷ history) =
      ((author : Author) → entry.author ≡ Some author → IsActionOf (document_ops schemas entry.diff) author.action) × HasOwnActions history

-- an entry lies above a clock
abbrev pub is_above : ℕ → RecentTree → Bool
is_above sent recent = int_lt (pos sent) recent.clock

-- what the schema of a room decides
abbrev pub decided_by : Kept → Schemas
decided_by kept = decided (schema_tree kept.schema)

-- a clock from which on a room can tell what happened lies at or above the start
abbrev pub IsFrom : ℕ → Option ℕ → Type 0
IsFrom start None = Unit {0}
IsFrom start (Some clock) = start ≤ clock
