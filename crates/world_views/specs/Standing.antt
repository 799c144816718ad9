-- For which worlds of the definitions, with what their clients watch, a world of the code stands.
use Rattle.std.specs.Prelude.{◌≡◌, ◌≢◌, ℕ, List, [], map, Option, None, Some, slice_get, Result, Ok, Err}
use Rattle.std.specs.Global.{Vec}
use Rattle.record_store.specs.Seen.{Seen, records, begun, watches}
use Rattle.live_views.specs.Watches.{Watched, Stand, news}
use Rattle.room_model.specs.Schemas.{WorldSchemas}
use Rattle.room_model.specs.declared.fault.StepFault.{StepFault}
use Rattle.room_model.specs.declared.fault.StepFault.TheVariants.{OutOfMemory}
use Rattle.rec_format.specs.declared.printed.PrintedLine.{PrintedLine}
use Rattle.rec_format.specs.declared.recorded.RecordedEvent.{RecordedEvent}
use Rattle.rec_format.specs.declared.recorded.RecordedEvent.TheVariants as recorded
use Rattle.side_effects.specs.declared.fault.EditFault.{EditFault}
use Rattle.sync_world.specs.Keeping.{AreKept}
use Rattle.sync_world.specs.Playing.{IsPlayed}
use Rattle.sync_world.specs.Standing as world_of
use Rattle.sync_world.specs.Viewing.{stores_of}
use Rattle.sync_world.specs.declared.world.World.{World}
use Rattle.world_views.specs.Views.{Viewed, Stepped, Outcome}
use Rattle.world_views.specs.declared.viewed.ViewedWorld.{ViewedWorld}

-- a store has the watches of a client, and no open transaction
pub record IsViewing (ws : List Watched) (store : Seen) : Type 0 where
  pub stand : Stand (watches store) (map Some ws)
  pub closed : begun store ≡ []

-- the store has nothing left to tell
abbrev pub IsQuiet : List Watched → Seen → Type 0
IsQuiet ws store = news (records store) (map Some ws) ≡ []

-- what holds between events
pub record Keeps (schemas : WorldSchemas EditFault) (viewed : Viewed) (code : World) : Type 0 where
  -- the world stands for that of the definitions
  pub world : world_of.Stands schemas viewed.world code
  -- each store has the watches of its client
  pub watched : AreKept IsViewing viewed.watched (stores_of code)
  -- no client has something left to tell
  pub quiet : AreKept IsQuiet viewed.watched (stores_of code)

-- while an event happens: the same, but that one client may have something to tell
pub record MayTell (schemas : WorldSchemas EditFault) (number : ℕ) (viewed : Viewed) (code : World) : Type 0 where
  pub world : world_of.Stands schemas viewed.world code
  pub watched : AreKept IsViewing viewed.watched (stores_of code)
  pub quiet : (n : ℕ) (ws : List Watched) (store : Seen) → n ≢ number → slice_get viewed.watched n ≡ Some ws → slice_get (stores_of code) n ≡ Some store → IsQuiet ws store

-- after an event the client may have something to tell whose document it may have changed, if there is one
abbrev pub After : WorldSchemas EditFault → Option ℕ → Viewed → World → Type 0
After schemas None viewed code = Keeps schemas viewed code
After schemas (Some client) viewed code = MayTell schemas client viewed code

-- a world whose memory never ran out stands for one of the definitions
abbrev pub Stands : WorldSchemas EditFault → Viewed → ViewedWorld → Type 0
Stands schemas viewed code = Keeps schemas viewed code.world

-- a step returns the lines, and the code stands for the next world. Or it returns the fault, and the code stands for the world as it was.
-- Where memory ran out nothing is said
abbrev pub StepsTo : WorldSchemas EditFault → Viewed → Outcome EditFault → Result (Vec PrintedLine) (StepFault EditFault) → ViewedWorld → Type 0
StepsTo schemas viewed outcome (Ok lines) code = (made : Stepped) × (outcome ≡ Ok made) × (lines.items ≡ made.lines) × Stands schemas made.viewed code
StepsTo schemas viewed outcome (Err fault) code = fault ≢ OutOfMemory → (outcome ≡ Err fault) × Stands schemas viewed code

-- where a client joins, its version is one of the tables'; a paste moves by at most 2^53 - 1 in each direction. Any watch and
-- any query is playable
abbrev pub IsPlayable : RecordedEvent → Type 0
IsPlayable (recorded.World e) = IsPlayed e
IsPlayable other = Unit {0}
