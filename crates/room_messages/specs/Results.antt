-- The results of a session's own pushes, by their numbers alone.
use Rattle.std.specs.Prelude.{ℕ, ◌==◌, ℤ, List, [], ◌∷◌, ◌++◌, map, if◌then◌else◌, Option, Some, None}
use Rattle.room_model.specs.declared.history.Author.{Author}
use Rattle.room_model.specs.declared.history.Entry.{Entry}
use Rattle.sync_msgs.specs.declared.data_event.Action.TheVariants.{Rebase}
use Rattle.sync_msgs.specs.declared.data_event.DataEvent.{DataEvent}
use Rattle.sync_msgs.specs.declared.data_event.DataEvent.TheVariants.{PushResult}

-- the number of the push of an author, if that is the session
abbrev pub own_clock : ℕ → Option Author → List ℤ
own_clock session None = []
own_clock session (Some author) = if author.session == session then author.client_clock ∷ [] else []

-- the numbers of a session's own pushes among entries, the oldest first
abbrev pub own_clocks : ℕ → List Entry → List ℤ
own_clocks session [] = []
own_clocks session (entry ∷ entries) = own_clocks session entries ++ own_clock session entry.author

-- the result of a push in a catch-up at a clock, which tells nothing by itself
abbrev pub bare : ℤ → ℤ → DataEvent
bare clock number = PushResult number clock (Rebase [])
