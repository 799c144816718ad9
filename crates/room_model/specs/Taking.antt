-- What a client makes of what it is sent: of its base, which is a document with the presence of others, and of what is pending.
use Rattle.std.specs.Prelude.{ℕ, List, [], ◌∷◌, drop, fold, Bool, unwrap_or}
use Rattle.rooms_val.specs.Data.{Data, Pairs}
use Rattle.field_ops.specs.RecordOps.{RecordOps}
use Rattle.doc_model.specs.Documents.{step}
use Rattle.room_model.specs.Schemas.{records_with}
use Rattle.room_model.specs.Replicas.{Pending, diff_in}
use Rattle.sync_msgs.specs.declared.data_event.Action.{Action}
use Rattle.sync_msgs.specs.declared.data_event.Action.TheVariants.{Commit, Discard, Rebase}
use Rattle.sync_msgs.specs.declared.data_event.DataEvent.{DataEvent}
use Rattle.sync_msgs.specs.declared.data_event.DataEvent.TheVariants.{Patch, PushResult}
use Rattle.sync_msgs.specs.declared.server_message.Hydration.{Hydration}
use Rattle.sync_msgs.specs.declared.server_message.Hydration.TheVariants.{WipeAll, WipePresence}

-- a replica: a base, and what is pending over it, the oldest first
pub record Replica : Type 0 where
  pub base : Pairs
  pub pending : List Pending

-- the diff of the first pending item; that of a presence is empty, and so it is if nothing is pending
abbrev pub first_diff : List Pending → RecordOps
first_diff [] = []
first_diff (item ∷ items) = unwrap_or (diff_in item.work) []

-- what the result of a push with a diff does to the base
abbrev pub result_diff : RecordOps → Action → RecordOps
result_diff pushed Commit = pushed
result_diff pushed Discard = []
result_diff pushed (Rebase diff) = diff

module _ (admits : List ℕ → Data → Bool) where
  -- a replica after an event: what changed is done to the base; a result ends the first pending item
  abbrev pub after_event : Replica → DataEvent → Replica
  after_event replica (Patch diff clock) = record replica { base = step admits replica.base diff }
  after_event replica (PushResult client_clock clock action) = record {
    base = step admits replica.base (result_diff (first_diff replica.pending) action);
    pending = drop 1 replica.pending;
  }

  -- after the events of a message, in order
  abbrev pub after_events : Replica → List DataEvent → Replica
  after_events replica events = fold after_event replica events

  -- a base after a snapshot: nothing of it stays, or its document alone, and the diff is done to that
  abbrev pub after_hydration : (List ℕ → Bool) → Pairs → Hydration → RecordOps → Pairs
  after_hydration is_document base WipeAll diff = step admits [] diff
  after_hydration is_document base WipePresence diff = step admits (records_with is_document base) diff
