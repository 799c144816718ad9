-- The events of a made recording.
use Rattle.std.specs.Prelude.{ℕ, pos, false, List, [], ◌∷◌, ◌++◌, codes, slice_index}
use Rattle.std.specs.Prelude as std
use Rattle.rooms_val.specs.Data.{whole, map, members_of}
use Rattle.rooms_val.specs.declared.val.Val.TheVariants as val
use Rattle.field_ops.specs.RecordOps.{RecordOps, RecordOpTree, put, patch, remove}
use Rattle.field_ops.specs.ValueOps as edit
use Rattle.room_model.specs.declared.event.Event.{Event}
use Rattle.room_model.specs.declared.event.Event.TheVariants as event
use Rattle.load_maker.specs.declared.draw.Act.{Act}
use Rattle.load_maker.specs.declared.draw.Act.TheVariants as act
use Rattle.load_maker.specs.declared.draw.Draw.{Draw}
use Rattle.load_maker.specs.Records as records

-- the version of each client
abbrev pub versions : List ℕ
versions = 3 ∷ 3 ∷ 2 ∷ 1 ∷ []

-- the session with the client's number is told something, and the client takes it
abbrev pub gets : ℕ → List Event
gets client = event.Send client ∷ event.Deliver client ∷ []

-- the client enters, by the session with its number
abbrev pub enters : ℕ → List Event
enters client = (event.Connect client false ∷ event.Handle client ∷ []) ++ gets client

-- the edit that makes the page
abbrev pub page_diff : RecordOps
page_diff = (codes "page:p", put (map (members_of records.page))) ∷ []

-- client 0 makes the page, and the room is told
abbrev pub makes_page : List Event
makes_page = event.Edit 0 page_diff ∷ event.Handle 0 ∷ []

-- the events before the draws: the clients come and enter one after another, client 0 makes the page, and each hears of it
unfoldable pub first_events : List Event
first_events =
    std.map event.Client versions
    ++ enters 0 ++ enters 1 ++ enters 2 ++ enters 3
    ++ makes_page
    ++ gets 0 ++ gets 1 ++ gets 2 ++ gets 3

-- a client's edit of the one shape with this number
abbrev pub edits : ℕ → ℕ → RecordOpTree → List Event
edits client number op = event.Edit client ((records.shape_id number, op) ∷ []) ∷ []

-- the patch that moves a shape to this x
abbrev pub moves : ℕ → RecordOpTree
moves x = patch ((codes "x", edit.put (whole (pos x))) ∷ [])

-- the events by which a client, whose last session is the given one, does something
abbrev pub events_by : ℕ → ℕ → Act → List Event
events_by client session (act.Put number x) = edits client number (put (map (members_of (records.shape (slice_index versions client) number x))))
events_by client session (act.Move number x) = edits client number (moves x)
events_by client session (act.Remove number) = edits client number remove
events_by client session (act.Point x) = event.Presence client (val.Map (records.presence client x)) ∷ []
events_by client session act.Mark = event.Mark client (codes "m") ∷ []
events_by client session act.Undo = event.Undo client ∷ []
events_by client session act.Redo = event.Redo client ∷ []
events_by client session act.Handle = event.Handle session ∷ []
events_by client session act.Send = event.Send session ∷ []
events_by client session act.Deliver = event.Deliver client ∷ []
events_by client session act.Cut = event.Cut client ∷ []
events_by client session act.Reconnect = event.Lose session ∷ event.Connect client false ∷ []

-- the events of a draw, where the clients' last sessions are the given ones
unfoldable pub events_of : Draw → List ℕ → List Event
events_of draw last = events_by draw.client (slice_index last draw.client) draw.act
