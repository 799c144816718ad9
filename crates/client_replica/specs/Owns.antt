-- When events commit a replica's own first edits, and what becomes of its stash then.
use Rattle.std.specs.Prelude.{ℕ, List, [], ◌∷◌, drop, slice_get, Bool, true, false, ◌&&◌, if◌then◌else◌, Option, None, is_some}
use Rattle.std.specs.List.{list_all}
use Rattle.rooms_val.specs.Data.{Data}
use Rattle.rooms_val.specs.Maps.{value_at}
use Rattle.field_ops.specs.RecordOps.{RecordOps}
use Rattle.doc_store.specs.Slots.{Slots}
use Rattle.room_model.specs.Replicas.{Work}
use Rattle.sync_msgs.specs.declared.data_event.Action.{Action}
use Rattle.sync_msgs.specs.declared.data_event.Action.TheVariants.{Commit, Discard, Rebase}
use Rattle.sync_msgs.specs.declared.data_event.DataEvent.{DataEvent}
use Rattle.sync_msgs.specs.declared.data_event.DataEvent.TheVariants.{Patch, PushResult}
use Rattle.client_replica.specs.Works.{pushed_diff}
use Rattle.client_replica.specs.Stashes.{is_named}

-- a diff names ids of the document alone
abbrev pub is_all_document : (List ℕ → Bool) → RecordOps → Bool
is_all_document is_doc diff = list_all (λ c. is_doc c.0) diff

-- a result leaves an edit as it was made
abbrev pub is_commit : Action → Bool
is_commit Commit = true
is_commit Discard = false
is_commit (Rebase diff) = false

-- an event commits a work, if there is one, that names ids of the document alone
abbrev pub commits : (List ℕ → Bool) → Option Work → DataEvent → Bool
commits is_doc first (Patch diff clock) = false
commits is_doc first (PushResult client_clock clock action) = is_commit action && is_all_document is_doc (pushed_diff first)

-- each event commits the first of the works that are left
abbrev pub are_own : (List ℕ → Bool) → List Work → List DataEvent → Bool
are_own is_doc works [] = true
are_own is_doc works (event ∷ events) = commits is_doc (slice_get works 0) event && are_own is_doc (drop 1 works) events

-- what a stash holds under an id once a base went on by changes, if these diffs are left: of the ids that changed, those that they name; under others what it held
abbrev pub settled : List RecordOps → Slots → Slots → List ℕ → Option (Option Data)
settled diffs changes stash id =
    if is_some (value_at changes id) then (if is_named diffs id then value_at changes id else None) else value_at stash id
