-- Serving links in one room.
use Rattle.std.proofs.Common.{◌≡◌, ℕ, zero, suc, List, [], ◌∷◌, Option, Some, slice_get, sym, ap, ◌∙◌}
use Rattle.std.proofs.lemmas.Option.{same_Some, none-some}
use Rattle.room_run.specs.Passes.{room_of_gone}
use Rattle.room_run.specs.Rooms.{id_of}
use Rattle.room_run.specs.declared.passes.Gone.{Gone}
use Rattle.room_run.specs.declared.running.RunningRoom.{RunningRoom}
use Rattle.room_serve.specs.Reports.{WasIn}

-- a list of one room has no other
only : (room found : RunningRoom) (place : ℕ) → slice_get (room ∷ []) place ≡ Some found → found ≡ room
only room found zero is = same_Some found room (sym is)
only room found (suc place) is = absurd (none-some found is)

-- who is gone was in the one room that there is
pub was_in_one : (rooms : List RunningRoom) (room : RunningRoom) (named : Option ℕ) (gone : Gone)
    → rooms ≡ room ∷ [] → WasIn rooms named gone → room_of_gone gone ≡ id_of room
was_in_one rooms room named gone one was =
    was.own ∙ ap id_of (only room was.running was.number (ap (λ l. slice_get l was.number) (sym one) ∙ was.there))
