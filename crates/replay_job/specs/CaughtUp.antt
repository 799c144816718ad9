-- What a recording prints of a client that has caught up with the room.
use Rattle.std.specs.Prelude.{◌≡◌, ℕ, List, [], ◌∷◌, ◌++◌, length, slice_get, Bool, Some, None}
use Rattle.rooms_val.specs.Data.{Pairs}
use Rattle.recording_lines.specs.Lines.{recorded_lines}
use Rattle.room_model.specs.Schemas.{WorldSchemas}
use Rattle.room_model.specs.Replicas.{Client, others}
use Rattle.room_model.specs.Worlds.{World, map_val}
use Rattle.rec_format.specs.declared.printed.PrintedLine.{PrintedLine}
use Rattle.rec_format.specs.declared.printed.PrintedLine.TheVariants as printed
use Rattle.rec_format.specs.declared.recorded.RecordedEvent.TheVariants as recorded
use Rattle.room_model.specs.declared.event.Event.TheVariants as event
use Rattle.room_model.specs.declared.line.OutLine.TheVariants as line
use Rattle.side_effects.specs.declared.fault.EditFault.{EditFault}
use Rattle.sync_world.specs.CaughtUp.{HasCaughtUp, IsOfRoom}
use Rattle.world_views.specs.Views.{Viewed}
use Rattle.replay_job.specs.Taking.{Progress, passed, Takes, Happens}

-- lines lead from one progress to another: none is refused or ends the recording
abbrev pub Leads : Bool → Progress → List (List ℕ) → Progress → Type 0
Leads trace progress [] last = progress ≡ last
Leads trace progress (line ∷ lines) last = (out : List PrintedLine) × (next : Progress) × Takes trace progress line (passed out next) × Leads trace next lines last

-- what is printed is one line, by which the client shows the room's document, seen at its version; nobody has a view to tell
abbrev pub ShowsTheRoom : WorldSchemas EditFault → World → ℕ → Client → List PrintedLine → Type 0
ShowsTheRoom schemas world number client out =
    (document : Pairs) × IsOfRoom schemas world client document
    × (out ≡ printed.World (line.Show number client.reached (map_val document) (map_val (others schemas world.room.history client)) (length client.pending)) ∷ [])

-- in each world to which the first lines of a recording lead, a client that has caught up shows the room's document
abbrev pub CaughtUpPrintTheRoom : Bool → List ℕ → Type 0
CaughtUpPrintTheRoom trace recording =
    (first rest : List (List ℕ)) (schemas : WorldSchemas EditFault) (viewed : Viewed) (number : ℕ) (client : Client) (out : List PrintedLine) (next : Progress)
    → recorded_lines recording ≡ first ++ rest → Leads trace None first (Some (schemas, viewed))
    → slice_get viewed.world.clients number ≡ Some client → HasCaughtUp viewed.world client
    → Happens trace schemas viewed (recorded.World (event.Show number)) (passed out next) → ShowsTheRoom schemas viewed.world number client out
