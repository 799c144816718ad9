-- What contracts see of passes: the room that they belong to, and what they know.
use Rattle.std.specs.Prelude.{◌≡◌, ℕ, List, [], ◌∷◌, slice_get, Option, Some, None}
use mathlib.Core.List.{IsPrefix}
use Rattle.atomic_table.specs.Seated.{TableId}
use Rattle.room_events.specs.Events.{events_of}
use Rattle.room_events.specs.declared.room_event.RoomEvent.{RoomEvent}
use Rattle.room_run.specs.Openings.{Opening}
use Rattle.room_run.specs.Views.{view_among}
use Rattle.room_run.specs.declared.passes.Gone.{Gone}
use Rattle.room_run.specs.declared.passes.Pass.{Pass}
use Rattle.room_run.specs.declared.passes.PassFault.{PassFault}
use Rattle.room_run.specs.declared.passes.PassFault.TheVariants.{Full, OutOfMemory}
use Rattle.room_run.specs.declared.views.View.{View}

-- what a pass knows, and the room that it belongs to: the table of that, and the room as it was opened
abbrev pub view_of : Pass → View
view_of pass = view_among pass.badge.views

abbrev pub room_of : Pass → TableId × Option Opening
room_of pass = (pass.badge.table_id, (view_of pass).opening)

-- the same of a pass that is gone
abbrev pub view_of_gone : Gone → View
view_of_gone gone = view_among gone.badge.views

abbrev pub room_of_gone : Gone → TableId × Option Opening
room_of_gone gone = (gone.badge.table_id, (view_of_gone gone).opening)

-- what holds of the pass that is gone if the room was full
abbrev pub IfFull : (Gone → Type 0) → PassFault → Type 0
IfFull holds (Full gone) = holds gone
IfFull holds OutOfMemory = Unit {0}

-- a history goes on from what a pass had seen that is gone, and has the events of its session as the pass made them
pub record EndsBy (pen : List RoomEvent) (gone : Gone) : Type 0 where
  pub begins : IsPrefix (view_of_gone gone).seen pen
  pub own : (number : ℕ) → gone.session ≡ Some number → events_of number pen ≡ (view_of_gone gone).mine

-- the same of each of some, and no two have one session
pub record AllEndBy (pen : List RoomEvent) (gones : List Gone) : Type 0 where
  pub each : (place : ℕ) (gone : Gone) → slice_get gones place ≡ Some gone → EndsBy pen gone
  pub apart : (place other number : ℕ) (x y : Gone) → slice_get gones place ≡ Some x → slice_get gones other ≡ Some y
      → x.session ≡ Some number → y.session ≡ Some number → place ≡ other
