-- A room, its clients, and what is in flight between them. Each event makes of a world the next, with the lines that it prints, or
-- can't happen.
use Rattle.std.specs.Prelude.{ℕ, nat_le, pos, List, [], ◌∷◌, ◌++◌, length, decimal, Bool, true, false, ◌||◌, if◌then◌else◌, Option, Some, None, option_map, slice_get, slice_set, unwrap_or, Result, Ok, Err}
use Rattle.std.specs.Option.{option_map_or}
use Rattle.rooms_val.specs.Data.{Data, Pairs}
use Rattle.rooms_val.specs.View.{data_of}
use Rattle.rooms_val.specs.declared.val.Val.{Val}
use Rattle.rooms_val.specs.declared.val.Val.TheVariants.{Map}
use Rattle.field_ops.specs.RecordOps.{RecordOps}
use Rattle.doc_model.specs.Inverses.{inverse_diff}
use Rattle.doc_model.specs.Marks as marks
use Rattle.doc_model.specs.Marks.{Marks}
use Rattle.room_model.specs.Clips.{ClipTree, TargetTree}
use Rattle.room_model.specs.Schemas.{WorldSchemas, doc, pres}
use Rattle.room_model.specs.Histories.{History, records_of}
use Rattle.room_model.specs.Rooms.{Room, new_room, after_enter, is_full, session_at, Replied, after_message, after_leave, Notice, snapshot_at, updates_between, pong, end, Given, next_for, after_drain}
use Rattle.room_model.specs.Replicas.{Client, new_client, session_of, Pushing, after_edit, after_diff, after_presence, after_cut, after_notice, schema_of, shown_document, others}
use Rattle.room_model.specs.declared.clip_fault.ClipFault.{ClipFault}
use Rattle.room_model.specs.declared.clip_fault.PasteFault.{PasteFault}
use Rattle.room_model.specs.declared.connection.Connection.{Connection}
use Rattle.room_model.specs.declared.connection.Connection.TheVariants.{Off, Asking, Open}
use Rattle.room_model.specs.declared.event.Event.{Event}
use Rattle.room_model.specs.declared.event.Event.TheVariants as event
use Rattle.room_model.specs.declared.fault.ConnectFault.{ConnectFault}
use Rattle.room_model.specs.declared.fault.ConnectFault.TheVariants.{AlreadyOpen, Refused}
use Rattle.room_model.specs.declared.fault.StepFault.{StepFault}
use Rattle.room_model.specs.declared.fault.StepFault.TheVariants.{NoSuchClient, NoSuchSession, NothingThere, Edit, Connect, NoMark, Limit, Clip, NoClip, Paste}
use Rattle.room_model.specs.declared.line.OutLine.{OutLine}
use Rattle.room_model.specs.declared.line.OutLine.TheVariants as line
use Rattle.room_model.specs.declared.limits.TheConstants.{MOST_CLIENTS, MOST_RECORDED, LAST_CLOCK, PROTOCOL}
use Rattle.sync_msgs.specs.declared.client_message.ClientMessage.{ClientMessage}
use Rattle.sync_msgs.specs.declared.client_message.ClientMessage.TheVariants as message
use Rattle.sync_msgs.specs.declared.end_reason.EndReason.{EndReason}
use Rattle.sync_msgs.specs.declared.out.Out.{Out}
use Rattle.sync_msgs.specs.declared.out.Out.TheVariants as out

-- what is in flight between a session and the room, the oldest first
pub record Channel : Type 0 where
  -- what the client sent
  pub to_room : List ClientMessage
  -- what the room sent
  pub to_client : List Notice

-- a world
pub record World : Type 0 where
  pub room : Room
  -- by the numbers of the room's sessions, as many as those
  pub channels : List Channel
  -- by number
  pub clients : List Client

-- a world over a room that nobody entered, without a client
abbrev pub world_over : Room → World
world_over room = record { room = room; channels = []; clients = [] }

-- a world in which nothing happened
abbrev pub new_world : World
new_world = world_over (new_room LAST_CLOCK)

-- the world with this client under a number
abbrev pub with_client : ℕ → Client → World → World
with_client number client world = record world { clients = slice_set world.clients number client }

-- the world with this channel under the number of a session
abbrev pub with_channel : ℕ → Channel → World → World
with_channel session channel world = record world { channels = slice_set world.channels session channel }

-- messages go into the channel of a session; nowhere where there is no such session, or it has left
abbrev pub with_messages : ℕ → List ClientMessage → World → World
with_messages session messages world =
    if option_map_or (λ s. true) (session_at session world.room) false
    then option_map_or (λ channel. with_channel session (record channel { to_room = channel.to_room ++ messages }) world) (slice_get world.channels session) world
    else world

-- a client that pushes takes its place, and what it pushes goes into the channel of its session
abbrev pub with_pushing : ℕ → Pushing → World → World
with_pushing number pushing world =
    option_map_or (λ session. with_messages session pushing.messages (with_client number pushing.client world))
    (session_of pushing.client.connection) (with_client number pushing.client world)

-- what an event that can happen makes: the world, and what is printed
pub record Stepped : Type 0 where
  pub world : World
  pub lines : List OutLine

-- records as a printed map
abbrev pub map_val : Pairs → Val
map_val m = Map m

-- a line, where messages are traced
abbrev pub trace_line : Bool → OutLine → List OutLine
trace_line trace line = if trace then line ∷ [] else []

-- a recording has no place for a further session, or the room hasn't
abbrev pub is_at_limit : World → Bool
is_at_limit world = is_full world.room || nat_le MOST_RECORDED (length world.room.sessions)

-- what a delivery prints
abbrev pub notice_lines : ℕ → Notice → List OutLine
notice_lines number (snapshot_at clock) = []
notice_lines number (updates_between from to) = []
notice_lines number pong = []
notice_lines number (end reason) = line.Ended number reason ∷ []

-- what a trace prints of what a session is given
abbrev pub out_line : ℕ → Out → OutLine
out_line session (out.Message said) = line.To session said
out_line session (out.End reason) = line.Ending session reason

-- the next world, or why the event can't happen; the fault of an edit is an F
abbrev pub Outcome : Type 0 → Type 0
Outcome F = Result Stepped (StepFault F)

module _ {F : Type 0} where
  -- the event happens, and prints these lines
  abbrev pub happens : List OutLine → World → Outcome F
  happens lines world = Ok (record { world = world; lines = lines })

  -- what follows for a client; NoSuchClient if it wasn't made
  abbrev pub at_client : ℕ → World → (Client → Outcome F) → Outcome F
  at_client number world next = option_map_or next (slice_get world.clients number) (Err NoSuchClient)

  -- what follows for the channel of a session; NoSuchSession if that never entered
  abbrev pub at_channel : ℕ → World → (Channel → Outcome F) → Outcome F
  at_channel session world next = option_map_or next (slice_get world.channels session) (Err NoSuchSession)

  -- the same of a session that is in the room; NoSuchSession if it never entered or has left
  abbrev pub at_session : ℕ → World → (Channel → Outcome F) → Outcome F
  at_session session world next = option_map_or (λ s. at_channel session world next) (session_at session world.room) (Err NoSuchSession)

  -- a client joins
  abbrev pub on_join : ℕ → World → Outcome F
  on_join version world =
      if nat_le MOST_CLIENTS (length world.clients) then Err Limit
      else happens [] (record world { clients = world.clients ++ new_client version ∷ [] })

  -- a client makes a mark
  abbrev pub on_mark : ℕ → List ℕ → World → Outcome F
  on_mark number name world =
      at_client number world (λ client. happens [] (with_client number (record client { marks = marks.after_mark name client.marks }) world))

  -- a client learns that its connection is lost
  abbrev pub on_cut : ℕ → World → Outcome F
  on_cut number world =
      at_client number world (λ client.
      option_map_or (λ session. happens [] (with_client number (after_cut client) world)) (session_of client.connection) (Err NoSuchSession))

  -- the room learns that a session is lost, and what was in flight to the room is gone
  abbrev pub on_lose : ℕ → World → Outcome F
  on_lose session world =
      at_session session world (λ channel.
      happens [] (with_channel session (record channel { to_room = [] }) (record world { room = unwrap_or (after_leave world.room session) world.room })))

  -- the first that is in flight to a client comes to it
  abbrev pub deliver_first : ℕ → ℕ → World → Client → Channel → List Notice → Outcome F
  deliver_first number session world client channel [] = Err NothingThere
  deliver_first number session world client channel (notice ∷ notices) =
      happens (notice_lines number notice)
      (with_pushing number (after_notice world.room.history session client notice) (with_channel session (record channel { to_client = notices }) world))

  -- the same, of a client that has a session
  abbrev pub on_deliver : ℕ → World → Outcome F
  on_deliver number world =
      at_client number world (λ client.
      option_map_or (λ session. at_channel session world (λ channel. deliver_first number session world client channel channel.to_client))
      (session_of client.connection) (Err NoSuchSession))

module _ {F : Type 0} (schemas : WorldSchemas F) where
  -- a client that has no session asks for one: a session enters, and its number, the client's clock and its schema go to the room
  abbrev pub ask : ℕ → Bool → World → Client → World
  ask number readonly world client =
      let session = length world.room.sessions in
      let channel : Channel = record {
        to_room = message.Connect (decimal session) client.reached PROTOCOL (schema_of schemas client).versions ∷ [];
        to_client = [];
      } in
      record {
        room = after_enter readonly world.room;
        channels = world.channels ++ channel ∷ [];
        clients = slice_set world.clients number (record client { connection = Asking session });
      }

  -- a client that the room would have connects, where there is place
  abbrev pub connect_if_allowed : ℕ → Bool → World → Client → Option EndReason → Outcome F
  connect_if_allowed number readonly world client (Some reason) = Err (Connect (Refused reason))
  connect_if_allowed number readonly world client None = if is_at_limit world then Err Limit else happens [] (ask number readonly world client)

  -- a client connects
  abbrev pub on_connect : ℕ → Bool → World → Outcome F
  on_connect number readonly world =
      at_client number world (λ client.
      option_map_or (λ session. Err (Connect AlreadyOpen)) (session_of client.connection)
      (connect_if_allowed number readonly world client client.refused))

  -- what a client shows
  abbrev pub shown_in : World → Client → Pairs
  shown_in world client = shown_document schemas world.room.history client

  -- the inverse of what acts of a diff in what a client shows
  abbrev pub inverse_in : World → Client → RecordOps → RecordOps
  inverse_in world client diff = inverse_diff (schema_of schemas client).admits (shown_in world client) diff

  -- a completed edit is pending, and its inverse joins the marks
  abbrev pub take_edit : ℕ → World → Client → Result RecordOps F → Outcome F
  take_edit number world client (Err fault) = Err (Edit fault)
  take_edit number world client (Ok diff) =
      happens []
      (with_pushing number (after_edit diff (record client { marks = marks.after_edit (inverse_in world client diff) client.marks })) world)

  -- a client edits what it shows
  abbrev pub on_edit : ℕ → RecordOps → World → Outcome F
  on_edit number wanted world =
      at_client number world (λ client. take_edit number world client ((schema_of schemas client).complete (shown_in world client) wanted))

  -- what a client copied is its clip
  abbrev pub take_clip : ℕ → World → Client → Result ClipTree ClipFault → Outcome F
  take_clip number world client (Err fault) = Err (Clip fault)
  take_clip number world client (Ok clip) = happens [] (with_client number (record client { clip = Some clip }) world)

  -- a client copies shapes of what it shows
  abbrev pub on_copy : ℕ → List (List ℕ) → World → Outcome F
  on_copy number ids world =
      at_client number world (λ client. take_clip number world client (schemas.clips.copied (shown_in world client) ids))

  -- what is to be pasted is an edit
  abbrev pub edit_pasted : ℕ → World → Result RecordOps PasteFault → Outcome F
  edit_pasted number world (Err fault) = Err (Paste fault)
  edit_pasted number world (Ok wanted) = on_edit number wanted world

  -- a client pastes its clip into what it shows
  abbrev pub on_paste : ℕ → TargetTree → World → Outcome F
  on_paste number target world =
      at_client number world (λ client.
      option_map_or (λ clip. edit_pasted number world (schemas.clips.pasted clip (shown_in world client) target)) client.clip (Err NoClip))

  -- a client sets its presence
  abbrev pub on_presence : ℕ → Data → World → Outcome F
  on_presence number d world =
      at_client number world (λ client.
      option_map_or (λ fault. Err (Edit fault)) ((schema_of schemas client).presence_fault d)
      (happens [] (with_pushing number (after_presence d client) world)))

  -- a diff that marks gave is done: it is pending unless it is empty, and the marks are those after it
  abbrev pub after_marked : ℕ → World → Client → RecordOps → Marks → World
  after_marked number world client diff after = with_pushing number (after_diff diff (record client { marks = after })) world

  -- a client takes its edits back to its last mark
  abbrev pub on_undo : ℕ → World → Outcome F
  on_undo number world =
      at_client number world (λ client.
      option_map_or (λ diff.
      happens (line.Undo number true ∷ [])
      (after_marked number world client diff (marks.after_undo (inverse_in world client diff) client.marks)))
      (marks.undo_diff client.marks) (happens (line.Undo number false ∷ []) world))

  -- a client does again what it took back last
  abbrev pub on_redo : ℕ → World → Outcome F
  on_redo number world =
      at_client number world (λ client.
      option_map_or (λ diff.
      happens (line.Redo number true ∷ [])
      (after_marked number world client diff (marks.after_redo (inverse_in world client diff) client.marks)))
      (marks.redo_diff client.marks) (happens (line.Redo number false ∷ []) world))

  -- a client takes its edits back to a mark, and forgets them
  abbrev pub on_bail : ℕ → List ℕ → World → Outcome F
  on_bail number name world =
      at_client number world (λ client.
      option_map_or (λ diff. happens [] (after_marked number world client diff (marks.after_bail name client.marks)))
      (marks.bail_diff name client.marks) (Err NoMark))

  -- the first message that is in flight from a session is given to the room
  abbrev pub handle_first : Bool → ℕ → World → Channel → List ClientMessage → Outcome F
  handle_first trace session world channel [] = Err NothingThere
  handle_first trace session world channel (said ∷ messages) =
      happens (trace_line trace (line.From session said))
      (with_channel session (record channel { to_room = messages })
      (record world { room = option_map_or (λ a. a.room) (after_message schemas.room world.room session said) world.room }))

  -- the same, of a session that is in the room
  abbrev pub on_handle : Bool → ℕ → World → Outcome F
  on_handle trace session world = at_session session world (λ channel. handle_first trace session world channel channel.to_room)

  -- the room gives a session what is next for it
  abbrev pub on_send : Bool → ℕ → World → Outcome F
  on_send trace session world =
      at_session session world (λ channel.
      option_map_or (λ given.
      happens (trace_line trace (out_line session given.out))
      (with_channel session (record channel { to_client = channel.to_client ++ given.notice ∷ [] })
      (record world { room = after_drain world.room session given })))
      (next_for schemas.room world.room session) (Err NothingThere))

  -- the line by which a client shows what it has
  abbrev pub show_line : ℕ → World → Client → OutLine
  show_line number world client =
      line.Show number client.reached (map_val (shown_in world client)) (map_val (others schemas world.room.history client)) (length client.pending)

  -- a client shows what it has
  abbrev pub on_show : ℕ → World → Outcome F
  on_show number world = at_client number world (λ client. happens (show_line number world client ∷ []) world)

  -- the line at the end: the room's clock, its document and its presence
  abbrev pub end_line : World → OutLine
  end_line world =
      let m = records_of world.room.history in
      line.End (pos (length world.room.history)) (map_val (doc schemas.room m)) (map_val (pres schemas.room m))

  -- what an event makes of a world
  abbrev pub after_event : Bool → World → Event → Outcome F
  after_event trace world (event.Client version) = on_join version world
  after_event trace world (event.Connect client readonly) = on_connect client readonly world
  after_event trace world (event.Edit client diff) = on_edit client diff world
  after_event trace world (event.Presence client val) = on_presence client (data_of val) world
  after_event trace world (event.Mark client name) = on_mark client name world
  after_event trace world (event.Undo client) = on_undo client world
  after_event trace world (event.Redo client) = on_redo client world
  after_event trace world (event.Bail client name) = on_bail client name world
  after_event trace world (event.Copy client ids) = on_copy client ids world
  after_event trace world (event.Paste client dx dy parent prefix) =
      on_paste client (record { prefix = prefix; parent = parent; dx = dx; dy = dy }) world
  after_event trace world (event.Handle session) = on_handle trace session world
  after_event trace world (event.Send session) = on_send trace session world
  after_event trace world (event.Deliver client) = on_deliver client world
  after_event trace world (event.Cut client) = on_cut client world
  after_event trace world (event.Lose session) = on_lose session world
  after_event trace world (event.Show client) = on_show client world
  after_event trace world event.End = happens (end_line world ∷ []) world
