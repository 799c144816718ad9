-- Which messages to a session follow from a room's history.
use Rattle.std.specs.Prelude.{ℕ, suc, ◌-◌, nat_lt, nat_le, ◌==◌, ℤ, pos, negsuc, List, [], ◌∷◌, ◌++◌, length, map, filter, fold, Bool, true, false, not, ◌&&◌, ◌||◌, if◌then◌else◌, Option, Some, None}
use Rattle.std.specs.Option.{option_map_or}
use Rattle.std.specs.Str.{bytes_eq}
use Rattle.rooms_val.specs.Data.{Pairs}
use Rattle.rooms_val.specs.Maps.{value_at, with_key}
use Rattle.field_ops.specs.RecordOps.{RecordOpTree, put, patch, remove, RecordOps}
use Rattle.room_model.specs.Schemas.{Schemas, Plan, Member, doc, pres, is_own}
use Rattle.room_model.specs.Histories.{History, records_of, changed_after, above, start_of}
use Rattle.room_model.specs.declared.history.Author.{Author}
use Rattle.room_model.specs.declared.history.Entry.{Entry}
use Rattle.room_model.specs.declared.limits.TheConstants.{MOST_TOLD, PROTOCOL}
use Rattle.sync_msgs.specs.declared.data_event.Action.{Action}
use Rattle.sync_msgs.specs.declared.data_event.Action.TheVariants.{Commit, Discard, Rebase}
use Rattle.sync_msgs.specs.declared.data_event.DataEvent.{DataEvent}
use Rattle.sync_msgs.specs.declared.data_event.DataEvent.TheVariants.{Patch, PushResult}
use Rattle.sync_msgs.specs.declared.server_message.Hydration.{Hydration}
use Rattle.sync_msgs.specs.declared.server_message.Hydration.TheVariants.{WipeAll, WipePresence}
use Rattle.sync_msgs.specs.declared.server_message.ServerMessage.{ServerMessage}
use Rattle.sync_msgs.specs.declared.server_message.ServerMessage.TheVariants.{Connect, Data}

-- a diff without a session's presence
abbrev pub except_own : ℕ → RecordOps → RecordOps
except_own session diff = filter (λ c. not (is_own session c.0)) diff

-- a diff that has an operation for each of some ids
abbrev pub diff_of : (List ℕ → RecordOpTree) → List (List ℕ) → RecordOps
diff_of op ids = fold (λ diff id. with_key diff id (op id)) [] ids

-- the clock that a client says it has reached, if the room can tell what happened since: it isn't below the start, up to which
-- removals are forgotten, nor above the clock
abbrev pub known_clock : ℤ → ℕ → ℕ → Option ℕ
known_clock (negsuc n) start clock = None
known_clock (pos reached) start clock = if nat_lt reached start || nat_lt clock reached then None else Some reached

-- how a client's base is brought to the room's: by what happened since a known clock, or whole
abbrev pub hydration : Option ℕ → Hydration
hydration None = WipeAll
hydration (Some reached) = WipePresence

module _ (schemas : Schemas) where
  -- what records have under an id, as a session sees it: a put of the record taken down, or a remove
  abbrev pub state_op : Plan → Pairs → List ℕ → RecordOpTree
  state_op plan m id = option_map_or (λ d. put (schemas.lower plan d)) (value_at m id) remove

  -- an entry's operation as a session is told it: at the room's schema as it is, else what the records after the entry have
  abbrev pub told_op : Plan → Pairs → List ℕ → RecordOpTree → RecordOpTree
  told_op [] m id c = c
  told_op (place ∷ plan) m id c = state_op (place ∷ plan) m id

  -- a diff as a session is told it: without its own presence
  abbrev pub told_diff : Member → Pairs → RecordOps → RecordOps
  told_diff member m diff = map (λ c. (c.0, told_op member.plan m c.0 c.1)) (except_own member.session diff)

  -- the action of a push as its session is told it
  abbrev pub told_action : Member → Pairs → Action → Action
  told_action member m Commit = Commit
  told_action member m Discard = Discard
  told_action member m (Rebase diff) = Rebase (told_diff member m diff)

  -- an entry at its clock, with the records after it, as its author is told it: the result of the push
  abbrev pub result_event : Member → Pairs → ℕ → Author → DataEvent
  result_event member m clock author = PushResult author.client_clock (pos clock) (told_action member m author.action)

  -- the same as another session is told it: what changed
  abbrev pub patch_event : Member → Pairs → ℕ → RecordOps → DataEvent
  patch_event member m clock diff = Patch (told_diff member m diff) (pos clock)

  -- the same, by its author
  abbrev pub event_by : Member → Pairs → ℕ → RecordOps → Option Author → DataEvent
  event_by member m clock diff None = patch_event member m clock diff
  event_by member m clock diff (Some author) =
      if author.session == member.session then result_event member m clock author else patch_event member m clock diff

  -- the newest entry of a history as a session is told it
  abbrev pub event_of : Member → Entry → History → DataEvent
  event_of member entry history = event_by member (records_of (entry ∷ history)) (suc (length history)) entry.diff entry.author

  -- an event for each entry above a session's sent clock, the oldest first
  abbrev pub events_after : Member → ℕ → History → List DataEvent
  events_after member sent [] = []
  events_after member sent (entry ∷ history) =
      if nat_lt (length history) sent then [] else events_after member sent history ++ event_of member entry history ∷ []

  -- the result of a session's own push in a catch-up at a clock: nothing of it is told by itself
  abbrev pub bare_result : Member → ℕ → Option Author → List DataEvent
  bare_result member clock None = []
  bare_result member clock (Some author) =
      if author.session == member.session then PushResult author.client_clock (pos clock) (Rebase []) ∷ [] else []

  -- the results of the session's own pushes among entries, the oldest first, all at one clock
  abbrev pub bare_results : Member → ℕ → History → List DataEvent
  bare_results member clock [] = []
  bare_results member clock (entry ∷ history) = bare_results member clock history ++ bare_result member clock entry.author

  -- what some of the ids have that changed after a clock, as a session sees it
  abbrev pub changes_after : Plan → (List ℕ → Bool) → ℕ → History → RecordOps
  changes_after plan test clock history =
      diff_of (state_op plan (records_of history)) (filter test (map (λ p. p.0) (changed_after clock history)))

  -- many entries at once: the results of the session's own, and what changed, without the session's presence
  abbrev pub catch_up : Member → ℕ → History → List DataEvent
  catch_up member sent history =
      let clock = length history in
      bare_results member clock (above sent history) ++ Patch (changes_after member.plan (λ id. not (is_own member.session id)) sent history) (pos clock) ∷ []

  -- what a session is told that was told everything up to its sent clock: each entry, or all at once if there are many
  abbrev pub updates : Member → ℕ → History → ServerMessage
  updates member sent history =
      Data (if nat_le (length history - sent) MOST_TOLD then events_after member sent history else catch_up member sent history)

  -- a diff with the puts of some records beside it, as a session sees them
  abbrev pub with_puts : Plan → Pairs → RecordOps → RecordOps
  with_puts plan m diff = fold (λ d p. with_key d p.0 (put (schemas.lower plan p.1))) diff m

  -- the records by which others are seen: the presence of all sessions but one
  abbrev pub others_of : ℕ → Pairs → Pairs
  others_of session m = filter (λ p. not (is_own session p.0)) (pres schemas m)

  -- the document's part of a snapshot: what changed after a known clock, or all records. What isn't there any more is removed; since
  -- the known clock isn't below the start, the room remembers it.
  abbrev pub document_diff : Plan → Option ℕ → History → RecordOps
  document_diff plan None history = with_puts plan (doc schemas (records_of history)) []
  document_diff plan (Some reached) history = changes_after plan schemas.is_document reached history

  -- what brings the base of a client to the room's: its document, and the presence of others
  abbrev pub snapshot_diff : Member → Option ℕ → History → RecordOps
  snapshot_diff member known history =
      with_puts member.plan (others_of member.session (records_of history)) (document_diff member.plan known history)

  -- what a session is sent that asked under a text and said which clock it has reached, in a room that began with a first start
  abbrev pub snapshot : Member → List ℕ → ℤ → ℕ → History → ServerMessage
  snapshot member request reached first history =
      let known = known_clock reached (start_of first history) (length history) in
      Connect (hydration known) request PROTOCOL schemas.versions (snapshot_diff member known history) (pos (length history)) member.readonly
