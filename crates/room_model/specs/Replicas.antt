-- A client by itself: its replica, which is a base with pending edits, what it shows, and what changes it.
use Rattle.std.specs.Prelude.{ℕ, zero, suc, nat_lt, ℤ, pos, negsuc, List, [], ◌∷◌, ◌++◌, length, map, drop, filter_map, find, count_by, Bool, true, false, ◌&&◌, if◌then◌else◌, Option, Some, None, is_none, option_map, option_to_list, Result, Ok, Err}
use Rattle.std.specs.Option.{option_map_or}
use Rattle.rooms_val.specs.Data.{Data, Pairs}
use Rattle.field_ops.specs.RecordOps.{put, RecordOps}
use Rattle.field_ops.specs.ViewRecordOps.{op_of}
use Rattle.doc_model.specs.Documents.{replay}
use Rattle.doc_model.specs.Marks.{Marks, no_marks}
use Rattle.room_model.specs.Clips.{ClipTree}
use Rattle.room_model.specs.Schemas.{ClientSchema, WorldSchemas, Plan, doc, seen_along}
use Rattle.room_model.specs.Histories.{History, records_of, up_to, oldest, above, is_by}
use Rattle.room_model.specs.Messages.{others_of}
use Rattle.room_model.specs.Rooms.{Notice, snapshot_at, updates_between, pong, end}
use Rattle.room_model.specs.declared.connection.Connection.{Connection}
use Rattle.room_model.specs.declared.connection.Connection.TheVariants.{Off, Asking, Open}
use Rattle.room_model.specs.declared.limits.TheConstants.{MOST_PUSHES}
use Rattle.sync_msgs.specs.declared.client_message.ClientMessage.{ClientMessage}
use Rattle.sync_msgs.specs.declared.client_message.ClientMessage.TheVariants.{Push}
use Rattle.sync_msgs.specs.declared.end_reason.EndReason.{EndReason}
use Rattle.sync_msgs.specs.declared.end_reason.EndReason.TheVariants.{ClientTooOld, ServerTooOld, InvalidRecord, RoomFull, Slow}

-- what a client did: an edit, or a presence that it set
pub data Work : Type 0 where
  edit : RecordOps → Work
  presence : Data → Work

-- what a client did and the room hasn't answered
pub record Pending : Type 0 where
  -- what it did
  pub work : Work
  -- the number under which it was pushed on this connection, from 1, if it was
  pub sent_as : Option ℕ

-- a client
pub record Client : Type 0 where
  -- that of its schema
  pub version : ℕ
  -- whether it has a session, and which
  pub connection : Connection
  -- the clock that it has reached, -1 before the first connection
  pub reached : ℤ
  -- the oldest first
  pub pending : List Pending
  -- the record by which others are to see it, if it set one
  pub presence : Option Data
  -- the reason for which the room won't have it, if there is one
  pub refused : Option EndReason
  -- what it can take back, and do again
  pub marks : Marks
  -- what it copied last, if it copied anything
  pub clip : Option ClipTree
  -- how many pushes it made, at most 2^53 - 1
  pub pushes : ℕ

-- a client that did nothing
abbrev pub new_client : ℕ → Client
new_client version = record {
  version = version;
  connection = Off;
  reached = negsuc 0;
  pending = [];
  presence = None;
  refused = None;
  marks = no_marks;
  clip = None;
  pushes = 0;
}

-- the session on which a client waits or is connected
abbrev pub session_of : Connection → Option ℕ
session_of Off = None
session_of (Asking session) = Some session
session_of (Open session) = Some session

-- whether a client is connected
abbrev pub is_open : Connection → Bool
is_open Off = false
is_open (Asking session) = false
is_open (Open session) = true

-- the diff of an edit
abbrev pub diff_in : Work → Option RecordOps
diff_in (edit diff) = Some diff
diff_in (presence d) = None

-- the diffs of the pending edits, the oldest first
abbrev pub pending_diffs : Client → List RecordOps
pending_diffs client = filter_map (λ item. diff_in item.work) client.pending

-- the push of a work under a number
abbrev pub push_of : ℕ → Work → ClientMessage
push_of number (edit diff) = Push (pos number) (Some diff) None
push_of number (presence d) = Push (pos number) None (Some (op_of (put d)))

-- a client, and what it gives to be sent
pub record Pushing : Type 0 where
  pub client : Client
  -- the oldest first
  pub messages : List ClientMessage

-- a client that gives nothing
abbrev pub push_none : Client → Pushing
push_none client = record { client = client; messages = [] }

-- a work that wasn't pushed
abbrev pub unsent : Work → Pending
unsent work = record { work = work; sent_as = None }

-- the first pending work that wasn't pushed on this connection
abbrev pub first_unsent : List Pending → Option Work
first_unsent items = option_map (λ item. item.work) (find (λ item. is_none item.sent_as) items)

-- pending items of which the first that wasn't pushed was, under a number
abbrev pub send_first : ℕ → List Pending → List Pending
send_first number [] = []
send_first number (item ∷ items) =
    if is_none item.sent_as then record item { sent_as = Some number } ∷ items else item ∷ send_first number items

-- a client that pushes a work, under the next number
abbrev pub push_one : Client → Work → Pushing
push_one client work =
    let number = suc client.pushes in
    record { client = record client { pending = send_first number client.pending; pushes = number }; messages = push_of number work ∷ [] }

-- a client pushes the first pending work that wasn't pushed, if it is connected, there is one, and it may push any more
abbrev pub next_push : Client → Option Pushing
next_push client =
    if is_open client.connection && nat_lt client.pushes MOST_PUSHES then option_map (push_one client) (first_unsent client.pending) else None

-- a client pushes so often as it can, at most so many times
abbrev pub push_times : ℕ → Client → Pushing
push_times zero client = push_none client
push_times (suc n) client =
    option_map_or (λ one. let more = push_times n one.client in record more { messages = one.messages ++ more.messages }) (next_push client) (push_none client)

-- a client pushes all that it can
abbrev pub push_all : Client → Pushing
push_all client = push_times (length client.pending) client

-- a work is pending after what was pending before
abbrev pub with_work : Work → Client → Client
with_work work client = record client { pending = client.pending ++ unsent work ∷ [] }

-- an edit is pending, and is pushed if the client is connected
abbrev pub after_edit : RecordOps → Client → Pushing
after_edit diff client = push_all (with_work (edit diff) client)

-- the same, if there is anything in the diff
abbrev pub after_diff : RecordOps → Client → Pushing
after_diff [] client = push_none client
after_diff (c ∷ diff) client = after_edit (c ∷ diff) client

-- a client sets its presence, which is pending and is pushed if the client is connected
abbrev pub after_presence : Data → Client → Pushing
after_presence d client =
    let set = record client { presence = Some d } in if is_open client.connection then push_all (with_work (presence d) set) else push_none set

-- works that were not pushed
abbrev pub all_unsent : List Work → List Pending
all_unsent works = map unsent works

-- a client without a session: its edits stay pending, and were not pushed; a presence doesn't stay
abbrev pub after_cut : Client → Client
after_cut client = record client { connection = Off; pending = all_unsent (map edit (pending_diffs client)) }

-- a client was told that its session is ended; after every reason but one it connects no more
abbrev pub after_end : EndReason → Client → Client
after_end Slow client = after_cut client
after_end reason client = record (after_cut client) { refused = Some reason }

-- a client was told what the room has at a clock: it is connected, and pushes its pending edits anew, and then its presence
abbrev pub after_snapshot : ℕ → ℕ → Client → Pushing
after_snapshot session clock client =
    push_all (record client {
      connection = Open session;
      reached = pos clock;
      pending = all_unsent (map edit (pending_diffs client) ++ map presence (option_to_list client.presence));
    })

-- how many entries above one clock and up to another answer pushes of a session
abbrev pub count_by_session : ℕ → ℕ → ℕ → History → ℕ
count_by_session session from to history = count_by (is_by session) (above from (oldest to history))

-- a client was told what happened after one clock and up to another: as much as that answers of its pushes is no longer pending
abbrev pub after_updates : History → ℕ → ℕ → ℕ → Client → Client
after_updates history session from to client =
    record client { reached = pos to; pending = drop (count_by_session session from to history) client.pending }

-- a client was given what a notice tells, on its session
abbrev pub after_notice : History → ℕ → Client → Notice → Pushing
after_notice history session client (snapshot_at clock) = after_snapshot session clock client
after_notice history session client (updates_between from to) = push_none (after_updates history session from to client)
after_notice history session client pong = push_none client
after_notice history session client (end reason) = push_none (after_end reason client)

module _ {F : Type 0} (schemas : WorldSchemas F) where
  -- what a client's schema decides
  abbrev pub schema_of : Client → ClientSchema F
  schema_of client = schemas.client client.version

  -- the plan from a client's schema to the room's, or the reason for which the room won't have it
  abbrev pub plan_of : Client → Result Plan EndReason
  plan_of client = schemas.room.plan_for (schema_of client).versions

  -- records as they are seen by somebody with a plan; who has none never sees any, and they are as they are
  abbrev pub seen_by : Result Plan EndReason → Pairs → Pairs
  seen_by (Ok plan) m = seen_along schemas.room plan m
  seen_by (Err reason) m = m

  -- the room's records at the clock that a client has reached
  abbrev pub reached_records : History → Client → Pairs
  reached_records history client = records_of (up_to client.reached history)

  -- the base of a client: the document of those, seen at its version
  abbrev pub base_of : History → Client → Pairs
  base_of history client = seen_by (plan_of client) (doc schemas.room (reached_records history client))

  -- what a client shows: the room's accepted operations folded to the clock that it has reached, seen at its version, with its own
  -- pending edits replayed
  abbrev pub shown_document : History → Client → Pairs
  shown_document history client = replay (schema_of client).admits (base_of history client) (pending_diffs client)

  -- the presence of others, where a client is connected: all that the room has at its clock but its session's own
  abbrev pub others_by : History → Client → Connection → Pairs
  others_by history client Off = []
  others_by history client (Asking session) = []
  others_by history client (Open session) = seen_by (plan_of client) (others_of schemas.room session (reached_records history client))

  -- the same, by the client's connection
  abbrev pub others : History → Client → Pairs
  others history client = others_by history client client.connection
