-- What reports hand in where rooms are closed.
use Rattle.std.specs.Prelude.{◌≡◌, ◌<◌, ◌++◌, ℕ, ◌==◌, List, [], ◌∷◌, ⊤, flat_map, length, map, All, IfSome, slice_get, Bool, false, Option, Some, None, if◌then◌else◌, option_to_list}
use Rattle.std.specs.Global.{Vec}
use Rattle.room_events.specs.Legal.{Legal}
use Rattle.room_run.specs.Openings as opened
use Rattle.room_run.specs.Openings.{room_after}
use Rattle.room_run.specs.Passes.{AllEndBy, room_of_gone}
use Rattle.room_run.specs.Rooms.{id_of, opening_of}
use Rattle.room_run.specs.Rule.{story}
use Rattle.room_run.specs.declared.close.Closed.{Closed}
use Rattle.room_run.specs.declared.passes.Gone.{Gone}
use Rattle.room_run.specs.declared.running.RunningRoom.{RunningRoom}
use Rattle.room_serve.specs.declared.report.Report.{Report}
use Rattle.room_serve.specs.declared.tally.Tally.{Tally}
use Rattle.room_server.specs.Opened.{schemas_of}
use Rattle.sync_room.specs.Standing.{Stands}

-- the reports of all tallies, in order
abbrev pub reports_of : List Tally → List Report
reports_of tallies = flat_map (λ tally. tally.reports.items) tallies

-- an option has this number
abbrev pub has_number : ℕ → Option ℕ → Bool
has_number number None = false
has_number number (Some other) = other == number

-- who is gone of the room of a number, by a report, and by some
abbrev pub gone_in : ℕ → Report → List Gone
gone_in number report = if has_number number report.room then option_to_list report.gone else []

abbrev pub gones_in : ℕ → List Report → List Gone
gones_in number reports = flat_map (gone_in number) reports

-- who is gone by a report was in a room below a number
abbrev pub IsBelow : ℕ → Report → Type 0
IsBelow count report = IfSome report.gone (λ gone. (number : ℕ) × (report.room ≡ Some number) × (number < count))

-- a report, and a tally, once who is gone is taken out
abbrev pub without_gone : Report → Report
without_gone report = record report { gone = None }

pub record IsEmptied (before after : Tally) : Type 0 where
  pub reports : after.reports.items ≡ map without_gone before.reports.items
  pub failed : after.failed ≡ before.failed

-- to each room's list those were added that are gone of it by some reports
pub record AddsGone (reports : List Report) (old new : List (Vec Gone)) : Type 0 where
  pub count : length new ≡ length old
  pub each : (number : ℕ) (before after : Vec Gone) → slice_get old number ≡ Some before → slice_get new number ≡ Some after
      → after.items ≡ before.items ++ gones_in number reports

-- each room's list has those that are gone of it by some reports
abbrev pub AreGathered : List Report → List (Vec Gone) → Type 0
AreGathered reports gones = (number : ℕ) (those : Vec Gone) → slice_get gones number ≡ Some those → those.items ≡ gones_in number reports

-- who is gone was in the room
abbrev pub AreOf : RunningRoom → Vec Gone → Type 0
AreOf room gones = All (λ gone. room_of_gone gone ≡ id_of room) gones.items

-- a running room was closed, with those that are gone of it
pub record IsEnd (room : RunningRoom) (gones : List Gone) (closed : Closed) : Type 0 where
  pub legal : Legal (opened.schemas_of (opening_of room)) (opened.last_of (opening_of room)) closed.pen
  pub room_is : Stands (room_after (story (opening_of room) closed.pen)) closed.room
  pub schema : schemas_of closed ≡ opened.schemas_of (opening_of room)
  pub ends : AllEndBy closed.pen gones

-- each of some rooms was, in order
abbrev pub AreEnded : List RunningRoom → List (Vec Gone) → List Closed → Type 0
AreEnded [] [] [] = ⊤
AreEnded (room ∷ rooms) (those ∷ gones) (one ∷ closed) = IsEnd room those.items one × AreEnded rooms gones closed
AreEnded rooms gones closed = ⊥
