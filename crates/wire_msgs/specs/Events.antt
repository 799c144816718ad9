-- The one value by which each event of a room is written, and the ranges of its fields.
use Rattle.std.specs.Prelude.{ℕ, ℤ, pos, ◌≤ℤ◌, List, [], ◌∷◌, codes}
use Rattle.rooms_val.specs.Data.{Data, Pairs, whole, text, map, members_of}
use Rattle.field_ops.specs.RecordOps.{RecordOps, IsSoundDiff}
use Rattle.field_ops.specs.WireRecordOps.{diff_data}
use Rattle.sync_msgs.specs.declared.data_event.Action.{Action}
use Rattle.sync_msgs.specs.declared.data_event.Action.TheVariants as action
use Rattle.sync_msgs.specs.declared.data_event.DataEvent.{DataEvent}
use Rattle.sync_msgs.specs.declared.data_event.DataEvent.TheVariants as event

-- the field that says of which type a message or event is
abbrev pub typed : List ℕ → List ℕ × Data
typed word = (codes "type", text word)

-- a clock that is sent counts from 0
abbrev pub IsClock : ℤ → Type 0
IsClock z = pos 0 ≤ℤ z

-- the field of an action that names a diff
abbrev pub rebase_fields : RecordOps → Pairs
rebase_fields diff = (codes "rebaseWithDiff", diff_data diff) ∷ []

-- the value of an action: `"commit"`, `"discard"` or `{"rebaseWithDiff":DIFF}`
abbrev pub action_val : Action → Data
action_val action.Commit = text (codes "commit")
action_val action.Discard = text (codes "discard")
action_val (action.Rebase diff) = map (members_of (rebase_fields diff))

-- the fields of an event, by key
abbrev pub event_fields : DataEvent → Pairs
event_fields (event.Patch diff clock) = (codes "diff", diff_data diff) ∷ (codes "serverClock", whole clock) ∷ typed (codes "patch") ∷ []
event_fields (event.PushResult push clock done) =
    (codes "action", action_val done) ∷ (codes "clientClock", whole push) ∷ (codes "serverClock", whole clock) ∷ typed (codes "push_result") ∷ []

-- the value of an event
abbrev pub event_val : DataEvent → Data
event_val e = map (members_of (event_fields e))

-- the ids of an action's diff rise, as those of every `Diff` do
abbrev pub IsProperAction : Action → Type 0
IsProperAction action.Commit = Unit {0}
IsProperAction action.Discard = Unit {0}
IsProperAction (action.Rebase diff) = IsSoundDiff diff

-- the clocks of an event count from 0, and the ids of its diff rise
abbrev pub IsProperEvent : DataEvent → Type 0
IsProperEvent (event.Patch diff clock) = IsSoundDiff diff × IsClock clock
IsProperEvent (event.PushResult push clock done) = IsProperAction done × IsClock push × IsClock clock

abbrev pub AreProperEvents : List DataEvent → Type 0
AreProperEvents [] = Unit {0}
AreProperEvents (e ∷ es) = IsProperEvent e × AreProperEvents es
