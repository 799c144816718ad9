-- What `restore` writes: a saved room is read, and then a recording goes on from it.
use Rattle.std.specs.Prelude.{◌≡◌, ◌⊎◌, ℕ, ◌+◌, pos, List, [], Bool, false, Some, None, Ok, Err}
use Rattle.migrate_seq.specs.Versions.{Versions}
use Rattle.migrate_seq.specs.declared.fault.PlanFault.{PlanFault}
use Rattle.fault_texts.specs.Texts.{snap_fault_text, plan_fault_text, load_fault_text, bad_record_text}
use Rattle.peer_schemas.specs.Clients.{schemas_of}
use Rattle.rec_format.specs.Lines.{IsHeader}
use Rattle.rec_format.specs.declared.read.TheConstants as format
use Rattle.recording_lines.specs.Lines.{lines_left, is_whole, most_bytes}
use Rattle.replay_job.specs.Replay.{Written, Rest, RestWrites, RestWritesFront, IsFront}
use Rattle.replay_job.specs.Taking.{IsRefusedHeader}
use Rattle.replay_job.specs.Texts.{fault_line, unended_text}
use Rattle.room_model.specs.Saves.{begun_room, load_fault}
use Rattle.room_model.specs.Worlds.{world_over}
use Rattle.room_model.specs.declared.event.Header.{Header}
use Rattle.room_model.specs.declared.limits.TheConstants.{LAST_CLOCK}
use Rattle.room_model.specs.declared.load_fault.LoadFault.{LoadFault}
use Rattle.room_model.specs.declared.saved.SavedRoom.{SavedRoom}
use Rattle.room_schemas.specs.Decided.{decided}
use Rattle.room_snapshot.specs.Ids.{HaveIds, IsFirstFault}
use Rattle.room_snapshot.specs.Raised.{raised}
use Rattle.room_snapshot.specs.Readings.{IsLine, RefusesLine}
use Rattle.room_snapshot.specs.Saved.{SavedTree, saved_tree, records_of}
use Rattle.room_snapshot.specs.declared.fault.SnapFault.{SnapFault}
use Rattle.room_snapshot.specs.declared.snapshot.TheConstants as snapshot
use Rattle.schema_core.specs.Tree.{SchemaTree}
use Rattle.tl_tables.specs.Tables.{IsSchemaAt}
use Rattle.world_views.specs.Views.{nobody_viewing}
use Rattle.snapshot_jobs.specs.Seeking.{First, found, nothing, first_line}

-- how a recording that goes on from a saved room begins: it is refused at a line, for a cause of this text; or this is left of it
pub data Beginning : Type 0 where
  refused_at : ℕ → List ℕ → Beginning
  begins : Rest → Beginning

-- the line of a saved room, with its number
pub record SavedLine : Type 0 where
  pub at : ℕ
  pub saved : SavedTree
  pub held : Versions

-- a saved room of these versions can't be brought to a schema, or no room begins from it, for a cause of this text; ids are looked at first
abbrev pub IsUnfit : SchemaTree → SavedTree → Versions → List ℕ → Type 0
IsUnfit schema saved held text =
    ((id : List ℕ) × IsFirstFault (records_of saved.documents) id × (text ≡ bad_record_text id))
    ⊎ ((fault : PlanFault) × HaveIds (records_of saved.documents) × (raised schema.sequences held saved ≡ Err fault) × (plan_fault_text fault ≡ Some text))
    ⊎ ((room : SavedRoom) × (fault : LoadFault) × HaveIds (records_of saved.documents) × (raised schema.sequences held saved ≡ Ok (saved_tree room))
    × (load_fault (decided schema) (pos LAST_CLOCK) room ≡ Some fault) × (load_fault_text fault ≡ Some text))

-- a room begins from a saved one of these versions that was brought to a schema
abbrev pub IsFit : SchemaTree → SavedTree → Versions → SavedRoom → Type 0
IsFit schema saved held room =
    HaveIds (records_of saved.documents) × (raised schema.sequences held saved ≡ Ok (saved_tree room)) × (load_fault (decided schema) (pos LAST_CLOCK) room ≡ None)

-- at the version of the header a saved room is refused, at its own line; or the events go on in the world over the room that begins from it
abbrev pub Loads : SavedLine → ℕ → Bool → ℕ → List (List ℕ) → Beginning → Type 0
Loads from version whole at lines b =
    (schema : SchemaTree) × IsSchemaAt version schema
    × (((text : List ℕ) × IsUnfit schema from.saved from.held text × (b ≡ refused_at from.at text))
    ⊎ ((room : SavedRoom) × IsFit schema from.saved from.held room
    × (b ≡ begins (record {
      progress = Some (schemas_of schema, nobody_viewing (world_over (begun_room LAST_CLOCK room)));
      at = at;
      lines = lines;
      whole = whole;
    }))))

-- the next line that isn't passed by is to be the header
abbrev pub TakesHeader : Bool → SavedLine → First → Beginning → Type 0
TakesHeader whole from (nothing at) b = b ≡ refused_at at (unended_text whole)
TakesHeader whole from (found at line lines) b =
    ((text : List ℕ) × IsRefusedHeader line text × (b ≡ refused_at at text))
    ⊎ ((header : Header) × IsHeader line header × Loads from header.version whole (at + 1) lines b)

-- the first line that isn't passed by is to be that of a saved room
abbrev pub TakesSaved : Bool → First → Beginning → Type 0
TakesSaved whole (nothing at) b = b ≡ refused_at at (unended_text whole)
TakesSaved whole (found at line lines) b =
    ((fault : SnapFault) × (text : List ℕ) × RefusesLine line fault × (snap_fault_text fault ≡ Some text) × (b ≡ refused_at at text))
    ⊎ ((saved : SavedTree) × (held : Versions) × IsLine line saved held
    × TakesHeader whole (record { at = at; saved = saved; held = held }) (first_line format.LONGEST_LINE (at + 1) lines) b)

-- the lines of what is read, which may be as long as that of a saved room
abbrev pub saved_lines : List ℕ → List (List ℕ)
saved_lines recording = lines_left snapshot.LONGEST_LINE most_bytes recording

-- how what is read begins
abbrev pub Begins : List ℕ → Beginning → Type 0
Begins recording b = TakesSaved (is_whole recording) (first_line snapshot.LONGEST_LINE 1 (saved_lines recording)) b

-- what is written of a beginning, and of what is left: the fault line alone, or the lines of the events
abbrev pub WritesOn : Beginning → Written → Type 0
WritesOn (refused_at at text) w = w ≡ record { text = fault_line at text; is_ended = false; reached = None }
WritesOn (begins rest) w = RestWrites false rest w

-- what is written of what is read
abbrev pub Restores : List ℕ → Written → Type 0
Restores recording w = (b : Beginning) × Begins recording b × WritesOn b w

-- a front of what is written of a beginning
abbrev pub WritesOnFront : Beginning → List ℕ → Type 0
WritesOnFront (refused_at at text) front = IsFront front (fault_line at text)
WritesOnFront (begins rest) front = RestWritesFront false rest front

-- a front of what is written; where nothing is, the beginning need not be looked at
abbrev pub RestoresFront : List ℕ → List ℕ → Type 0
RestoresFront recording front = (front ≡ []) ⊎ ((b : Beginning) × Begins recording b × WritesOnFront b front)
