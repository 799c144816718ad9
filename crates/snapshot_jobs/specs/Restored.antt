-- What the code makes of the line of a saved room, and how a recording that goes on from it leaves its sink.
use Rattle.std.specs.Prelude.{◌≡◌, ℕ, pos, List, Option, Some, None, Result, Ok, Err}
use Rattle.fault_texts.specs.Texts.{load_fault_text}
use Rattle.migrate_seq.specs.Versions.{Versions}
use Rattle.peer_schemas.specs.Clients.{schemas_of}
use Rattle.replay_job.specs.Endings.{status_code}
use Rattle.replay_job.specs.declared.play.End.{End}
use Rattle.replay_job.specs.declared.play.Stop.{Stop}
use Rattle.room_model.specs.Saves.{begun_room, load_fault}
use Rattle.room_model.specs.Worlds.{world_over}
use Rattle.room_model.specs.declared.limits.TheConstants.{LAST_CLOCK}
use Rattle.room_model.specs.declared.load_fault.LoadFault.{LoadFault}
use Rattle.room_model.specs.declared.saved.SavedRoom.{SavedRoom}
use Rattle.room_schemas.specs.Decided.{decided}
use Rattle.room_snapshot.specs.Saved.{SavedTree}
use Rattle.schema_core.specs.Tree.{SchemaTree}
use Rattle.tl_tables.specs.Tables.{IsVersion, IsSchemaAt}
use Rattle.world_views.specs.Standing.{Stands}
use Rattle.world_views.specs.Views.{nobody_viewing}
use Rattle.world_views.specs.declared.viewed.ViewedWorld.{ViewedWorld}
use Rattle.snapshot_jobs.specs.Endings.{RestoresAll, RestoresAllFront}
use Rattle.snapshot_jobs.specs.Restoring.{IsUnfit, IsFit}

-- a world of the code stands for that over the room that begins from a saved one, where the schema is that of a version
abbrev pub StandsFor : SchemaTree → SavedRoom → ViewedWorld → Type 0
StandsFor schema room code =
    (version : ℕ) → IsVersion version → IsSchemaAt version schema → Stands (schemas_of schema) (nobody_viewing (world_over (begun_room LAST_CLOCK room))) code

-- a world of the code stands for that, or the text says why no room begins from the saved one
abbrev pub IsRoomOf : SchemaTree → SavedRoom → Result ViewedWorld (List ℕ) → Type 0
IsRoomOf schema room (Ok code) = (load_fault (decided schema) (pos LAST_CLOCK) room ≡ None) × StandsFor schema room code
IsRoomOf schema room (Err text) = (fault : LoadFault) × (load_fault (decided schema) (pos LAST_CLOCK) room ≡ Some fault) × (load_fault_text fault ≡ Some text)

-- the same of a saved room of these versions that is brought to the schema first
abbrev pub IsWorldOf : SchemaTree → SavedTree → Versions → Result ViewedWorld (List ℕ) → Type 0
IsWorldOf schema saved held (Ok code) = (room : SavedRoom) × IsFit schema saved held room × StandsFor schema room code
IsWorldOf schema saved held (Err text) = IsUnfit schema saved held text

-- how a recording that goes on from a saved room leaves its sink
abbrev pub LeavesRestored : Option (List ℕ) → Result End Stop → Option (List ℕ) → Option (List ℕ) → Type 0
LeavesRestored left (Ok e) old new = RestoresAll left (status_code (Ok e)) old new
LeavesRestored left (Err stop) old new = RestoresAllFront left old new
