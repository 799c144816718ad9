-- What may be printed, and what of it is read again.
use Rattle.std.specs.Prelude.{ℕ, ◌≤◌, ◌<◌, ◌^◌, IsTrue}
use Rattle.rooms_val.specs.Data.{Data, depth}
use Rattle.rooms_val.specs.Json.{json_of, is_within, deepest}
use Rattle.room_model.specs.declared.event.Event.{Event}
use Rattle.room_model.specs.declared.event.Event.TheVariants as event
use Rattle.rec_format.specs.Outs.{number_printed}
use Rattle.rec_format.specs.declared.recorded.RecordedEvent.{RecordedEvent}
use Rattle.rec_format.specs.declared.recorded.RecordedEvent.TheVariants as recorded

-- the event that the line of an event says: its number is the one that is printed
abbrev pub as_printed : Event → Event
as_printed (event.Client v) = event.Client v
as_printed (event.Connect c readonly) = event.Connect (number_printed c) readonly
as_printed (event.Edit c diff) = event.Edit (number_printed c) diff
as_printed (event.Presence c r) = event.Presence (number_printed c) r
as_printed (event.Mark c name) = event.Mark (number_printed c) name
as_printed (event.Undo c) = event.Undo (number_printed c)
as_printed (event.Redo c) = event.Redo (number_printed c)
as_printed (event.Bail c name) = event.Bail (number_printed c) name
as_printed (event.Copy c ids) = event.Copy (number_printed c) ids
as_printed (event.Paste c dx dy parent prefix) = event.Paste (number_printed c) dx dy parent prefix
as_printed (event.Handle s) = event.Handle (number_printed s)
as_printed (event.Send s) = event.Send (number_printed s)
as_printed (event.Deliver c) = event.Deliver (number_printed c)
as_printed (event.Cut c) = event.Cut (number_printed c)
as_printed (event.Lose s) = event.Lose (number_printed s)
as_printed (event.Show c) = event.Show (number_printed c)
as_printed event.End = event.End

-- the same of every event of a recording
abbrev pub as_printed_recorded : RecordedEvent → RecordedEvent
as_printed_recorded (recorded.World e) = recorded.World (as_printed e)
as_printed_recorded (recorded.Watch c view) = recorded.Watch (number_printed c) view
as_printed_recorded (recorded.Query c type query) = recorded.Query (number_printed c) type query

-- a number that a value can have
abbrev pub Fits : ℕ → Type 0
Fits n = n < 2 ^ 63

-- the number of the event's client or session fits
abbrev pub IsPrintable : Event → Type 0
IsPrintable (event.Client v) = Unit {0}
IsPrintable (event.Connect c readonly) = Fits c
IsPrintable (event.Edit c diff) = Fits c
IsPrintable (event.Presence c r) = Fits c
IsPrintable (event.Mark c name) = Fits c
IsPrintable (event.Undo c) = Fits c
IsPrintable (event.Redo c) = Fits c
IsPrintable (event.Bail c name) = Fits c
IsPrintable (event.Copy c ids) = Fits c
IsPrintable (event.Paste c dx dy parent prefix) = Fits c
IsPrintable (event.Handle s) = Fits s
IsPrintable (event.Send s) = Fits s
IsPrintable (event.Deliver c) = Fits c
IsPrintable (event.Cut c) = Fits c
IsPrintable (event.Lose s) = Fits s
IsPrintable (event.Show c) = Fits c
IsPrintable event.End = Unit {0}

-- the same of every event of a recording
abbrev pub IsPrintableRecorded : RecordedEvent → Type 0
IsPrintableRecorded (recorded.World e) = IsPrintable e
IsPrintableRecorded (recorded.Watch c view) = Fits c
IsPrintableRecorded (recorded.Query c type query) = Fits c

-- the value's numbers are in range, and it isn't too deep: what is printed is read again
abbrev pub IsReadable : Data → Type 0
IsReadable d = IsTrue (is_within (json_of d)) × depth d ≤ deepest
