-- What a replica has pending, and what events bring to it.
use Rattle.std.specs.Prelude.{ℕ, List, [], length, map, sum_by, filter_map, Option, None, option_and_then, unwrap_or}
use Rattle.rooms_val.specs.View.{data_of}
use Rattle.field_ops.specs.RecordOps.{RecordOps}
use Rattle.room_model.specs.Replicas as model
use Rattle.room_model.specs.Taking.{result_diff}
use Rattle.sync_msgs.specs.declared.data_event.DataEvent.{DataEvent}
use Rattle.sync_msgs.specs.declared.data_event.DataEvent.TheVariants.{Patch, PushResult}
use Rattle.client_replica.specs.declared.work.Work.{Work}
use Rattle.client_replica.specs.declared.work.Work.TheVariants as v

-- the work that the code's value stands for
abbrev pub work_of : Work → model.Work
work_of (v.Edit diff) = model.edit diff
work_of (v.Presence val) = model.presence (data_of val)

-- the works of pending items
abbrev pub works_in : List model.Pending → List model.Work
works_in items = map (λ item. item.work) items

-- the diffs of the edits among works, the oldest first
abbrev pub diffs_in : List model.Work → List RecordOps
diffs_in works = filter_map model.diff_in works

-- how many operations diffs have
abbrev pub operations : List RecordOps → ℕ
operations diffs = sum_by length diffs

-- the diff of a work, and the empty one of a presence or of none
abbrev pub pushed_diff : Option model.Work → RecordOps
pushed_diff work = unwrap_or (option_and_then model.diff_in work) []

-- what an event does to the base, if this is the first that is pending
abbrev pub event_diff : Option model.Work → DataEvent → RecordOps
event_diff first (Patch diff clock) = diff
event_diff first (PushResult client_clock clock action) = result_diff (pushed_diff first) action

-- the diff that an event brings itself
abbrev pub brought_diff : DataEvent → RecordOps
brought_diff event = event_diff None event

-- how many operations events bring
abbrev pub brought : List DataEvent → ℕ
brought events = sum_by (λ event. length (brought_diff event)) events

-- how many works an event ends
abbrev pub ended_by : DataEvent → ℕ
ended_by (Patch diff clock) = 0
ended_by (PushResult client_clock clock action) = 1

-- how many results events have, each of which ends a work
abbrev pub ended : List DataEvent → ℕ
ended events = sum_by ended_by events

-- the diff of the work that an event ends, if this is the first that is pending, and the empty one of a patch, a presence or none
abbrev pub ended_diff : Option model.Work → DataEvent → RecordOps
ended_diff first (Patch diff clock) = []
ended_diff first (PushResult client_clock clock action) = pushed_diff first
