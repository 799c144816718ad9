-- What each event makes of a world, by what is looked up for it.
use Rattle.std.proofs.Common.{◌≡◌, ℕ, ◌++◌, nat_le, Bool, true, false, cond, List, [], ◌∷◌, length, get_or, slice_get, slice_set, Option, Some, None, Ok, Err, Result, refl, sym, ap, ◌∙◌}
use Rattle.std.specs.Prelude.{option_map, unwrap_or, nat_lt, ◌&&◌}
use Rattle.std.specs.Option.{option_map_or}
use Rattle.rooms_val.specs.Data.{Data}
use Rattle.field_ops.specs.RecordOps.{RecordOps}
use Rattle.doc_model.specs.Marks as marks
use Rattle.room_model.specs.Clips.{ClipTree, TargetTree}
use Rattle.room_model.specs.Schemas.{WorldSchemas}
use Rattle.room_model.specs.Rooms.{Session, Room, session_at, Notice, Replied, after_message, after_leave, Given, next_for, after_drain}
use Rattle.room_model.specs.Replicas.{Client, new_client, session_of, is_open, edit, presence, Pushing, push_none, push_all, push_one, first_unsent, with_work, after_presence, after_cut, after_notice, schema_of}
use Rattle.room_model.specs.Worlds.{Channel, World, with_client, with_channel, with_messages, with_pushing, Outcome, happens, at_client, at_session, trace_line, out_line, notice_lines, is_at_limit, on_join, on_cut, on_lose, deliver_first, on_deliver, ask, connect_if_allowed, on_connect, shown_in, inverse_in, take_edit, take_clip, on_copy, edit_pasted, on_paste, on_edit, on_presence, handle_first, on_handle, on_send, show_line, on_show}
use Rattle.room_model.specs.declared.clip_fault.ClipFault.{ClipFault}
use Rattle.room_model.specs.declared.clip_fault.PasteFault.{PasteFault}
use Rattle.room_model.specs.declared.fault.ConnectFault.TheVariants.{AlreadyOpen, Refused}
use Rattle.room_model.specs.declared.fault.StepFault.TheVariants.{NoSuchClient, NoSuchSession, NothingThere, Edit, Connect, Limit, NoClip}
use Rattle.room_model.specs.declared.limits.TheConstants.{MOST_CLIENTS, MOST_PUSHES}
use Rattle.room_model.specs.declared.line.OutLine.TheVariants as line
use Rattle.sync_msgs.specs.declared.client_message.ClientMessage.{ClientMessage}
use Rattle.sync_msgs.specs.declared.end_reason.EndReason.{EndReason}
use Rattle.sync_world.specs.Sending.{sent_by}
use Rattle.room_model.proofs.ClientLemmas.{pushed_none}
use Rattle.sync_world.proofs.WorldLemmas.{sent_at, sent_past, sent_set}

-- what is found is gone on with, and nothing is a fault
pub if_some : {X Y : Type 0} (next : X → Y) (o : Option X) (other : Y) (x : X) → o ≡ Some x → option_map_or next o other ≡ next x
if_some next o other x is = ap (λ q. option_map_or next q other) is

pub if_none : {X Y : Type 0} (next : X → Y) (o : Option X) (other : Y) → o ≡ None → option_map_or next o other ≡ other
if_none next o other is = ap (λ q. option_map_or next q other) is

module _ {F : Type 0} (w : World) where
  pub joins : (version : ℕ) → nat_le MOST_CLIENTS (length w.clients) ≡ false → on_join {F = F} version w ≡ happens [] (record w { clients = w.clients ++ new_client version ∷ [] })
  joins version is = let next : Outcome F = happens [] (record w { clients = w.clients ++ new_client version ∷ [] }) in ap (λ b. cond b (Err Limit) next) is

  pub joins_no_more : (version : ℕ) → nat_le MOST_CLIENTS (length w.clients) ≡ true → on_join {F = F} version w ≡ Err Limit
  joins_no_more version is = let next : Outcome F = happens [] (record w { clients = w.clients ++ new_client version ∷ [] }) in ap (λ b. cond b (Err Limit) next) is

  module _ (n : ℕ) (c : Client) (at : slice_get w.clients n ≡ Some c) where
    pub cuts : (k : ℕ) → session_of c.connection ≡ Some k → on_cut {F = F} n w ≡ happens [] (with_client n (after_cut c) w)
    cuts k is = if_some _ (slice_get w.clients n) (Err NoSuchClient) c at ∙ if_some _ (session_of c.connection) (Err NoSuchSession) k is

    pub cuts_none : session_of c.connection ≡ None → on_cut {F = F} n w ≡ Err NoSuchSession
    cuts_none is = if_some _ (slice_get w.clients n) (Err NoSuchClient) c at ∙ if_none _ (session_of c.connection) (Err NoSuchSession) is

    pub delivers_none : session_of c.connection ≡ None → on_deliver {F = F} n w ≡ Err NoSuchSession
    delivers_none is = if_some _ (slice_get w.clients n) (Err NoSuchClient) c at ∙ if_none _ (session_of c.connection) (Err NoSuchSession) is

    module _ (k : ℕ) (has : session_of c.connection ≡ Some k) (channel : Channel) (there : slice_get w.channels k ≡ Some channel) where
      delivers_so : (notices : List Notice) → channel.to_client ≡ notices → on_deliver {F = F} n w ≡ deliver_first n k w c channel notices
      delivers_so notices is =
          if_some _ (slice_get w.clients n) (Err NoSuchClient) c at ∙ if_some _ (session_of c.connection) (Err NoSuchSession) k has
          ∙ if_some _ (slice_get w.channels k) (Err NoSuchSession) channel there ∙ ap (deliver_first n k w c channel) is

      pub delivers : (notice : Notice) (notices : List Notice) → channel.to_client ≡ notice ∷ notices
          → on_deliver {F = F} n w ≡ happens (notice_lines n notice) (with_pushing n (after_notice w.room.history k c notice) (with_channel k (record channel { to_client = notices }) w))
      delivers notice notices is = delivers_so (notice ∷ notices) is

      pub delivers_nothing : channel.to_client ≡ [] → on_deliver {F = F} n w ≡ Err NothingThere
      delivers_nothing is = delivers_so [] is

  module _ (k : ℕ) (s : Session) (here : session_at k w.room ≡ Some s) (channel : Channel) (there : slice_get w.channels k ≡ Some channel) where
    pub in_session : (next : Channel → Outcome F) → at_session k w next ≡ next channel
    in_session next = if_some _ (session_at k w.room) (Err NoSuchSession) s here ∙ if_some _ (slice_get w.channels k) (Err NoSuchSession) channel there

    pub loses : (room : Room) → after_leave w.room k ≡ Some room → on_lose {F = F} k w ≡ happens [] (with_channel k (record channel { to_room = [] }) (record w { room = room }))
    loses room is = in_session _ ∙ ap (λ (o : Option Room). let made : Outcome F = happens [] (with_channel k (record channel { to_room = [] }) (record w { room = unwrap_or o w.room })) in made) is

  pub no_session : (k : ℕ) (next : Channel → Outcome F) → session_at k w.room ≡ None → at_session k w next ≡ Err NoSuchSession
  no_session k next is = if_none _ (session_at k w.room) (Err NoSuchSession) is

  pub no_client : (n : ℕ) (next : Client → Outcome F) → slice_get w.clients n ≡ None → at_client n w next ≡ Err NoSuchClient
  no_client n next is = if_none _ (slice_get w.clients n) (Err NoSuchClient) is

module _ {F : Type 0} (schemas : WorldSchemas F) (w : World) where
  module _ (n : ℕ) (c : Client) (at : slice_get w.clients n ≡ Some c) where
    pub shows : on_show schemas n w ≡ happens (show_line schemas n w c ∷ []) w
    shows = if_some _ (slice_get w.clients n) (Err NoSuchClient) c at

    edits_so : (wanted : RecordOps) (o : Result RecordOps F) → (schema_of schemas c).complete (shown_in schemas w c) wanted ≡ o → on_edit schemas n wanted w ≡ take_edit schemas n w c o
    edits_so wanted o is = if_some _ (slice_get w.clients n) (Err NoSuchClient) c at ∙ ap (take_edit schemas n w c) is

    pub edits : (wanted diff : RecordOps) → (schema_of schemas c).complete (shown_in schemas w c) wanted ≡ Ok diff
        → on_edit schemas n wanted w ≡ happens [] (with_pushing n (push_all (with_work (edit diff) (record c { marks = marks.after_edit (inverse_in schemas w c diff) c.marks }))) w)
    edits wanted diff is = edits_so wanted (Ok diff) is

    pub edits_not : (wanted : RecordOps) (fault : F) → (schema_of schemas c).complete (shown_in schemas w c) wanted ≡ Err fault → on_edit schemas n wanted w ≡ Err (Edit fault)
    edits_not wanted fault is = edits_so wanted (Err fault) is

    pub copies : (ids : List (List ℕ)) (o : Result ClipTree ClipFault) → schemas.clips.copied (shown_in schemas w c) ids ≡ o → on_copy schemas n ids w ≡ take_clip schemas n w c o
    copies ids o is = if_some _ (slice_get w.clients n) (Err NoSuchClient) c at ∙ ap (take_clip schemas n w c) is

    pub pastes_nothing : (target : TargetTree) → c.clip ≡ None → on_paste schemas n target w ≡ Err NoClip
    pastes_nothing target is = if_some _ (slice_get w.clients n) (Err NoSuchClient) c at ∙ if_none _ c.clip (Err NoClip) is

    pub pastes : (target : TargetTree) (clip : ClipTree) (o : Result RecordOps PasteFault) → c.clip ≡ Some clip → schemas.clips.pasted clip (shown_in schemas w c) target ≡ o
        → on_paste schemas n target w ≡ edit_pasted schemas n w o
    pastes target clip o has is = if_some _ (slice_get w.clients n) (Err NoSuchClient) c at ∙ if_some _ c.clip (Err NoClip) clip has ∙ ap (edit_pasted schemas n w) is

    pub is_set : (d : Data) → (schema_of schemas c).presence_fault d ≡ None → on_presence schemas n d w ≡ happens [] (with_pushing n (after_presence d c) w)
    is_set d is = if_some _ (slice_get w.clients n) (Err NoSuchClient) c at ∙ if_none _ ((schema_of schemas c).presence_fault d) (happens [] (with_pushing n (after_presence d c) w)) is

    pub is_not_set : (d : Data) (fault : F) → (schema_of schemas c).presence_fault d ≡ Some fault → on_presence schemas n d w ≡ Err (Edit fault)
    is_not_set d fault is = if_some _ (slice_get w.clients n) (Err NoSuchClient) c at ∙ if_some _ ((schema_of schemas c).presence_fault d) (happens [] (with_pushing n (after_presence d c) w)) fault is

    pub is_open_already : (readonly : Bool) (k : ℕ) → session_of c.connection ≡ Some k → on_connect schemas n readonly w ≡ Err (Connect AlreadyOpen)
    is_open_already readonly k is = if_some _ (slice_get w.clients n) (Err NoSuchClient) c at ∙ if_some _ (session_of c.connection) (connect_if_allowed schemas n readonly w c c.refused) k is

    module _ (readonly : Bool) (off : session_of c.connection ≡ None) where
      connects_so : (o : Option EndReason) → c.refused ≡ o → on_connect schemas n readonly w ≡ connect_if_allowed schemas n readonly w c o
      connects_so o is =
          if_some _ (slice_get w.clients n) (Err NoSuchClient) c at ∙ if_none _ (session_of c.connection) (connect_if_allowed schemas n readonly w c c.refused) off
          ∙ ap (connect_if_allowed schemas n readonly w c) is

      pub is_refused : (reason : EndReason) → c.refused ≡ Some reason → on_connect schemas n readonly w ≡ Err (Connect (Refused reason))
      is_refused reason is = connects_so (Some reason) is

      module _ (allowed : c.refused ≡ None) where
        pub has_no_place : is_at_limit w ≡ true → on_connect schemas n readonly w ≡ Err Limit
        has_no_place is = connects_so None allowed ∙ ap (λ b. let made : Outcome F = cond b (Err Limit) (happens [] (ask schemas n readonly w c)) in made) is

        pub connects : is_at_limit w ≡ false → on_connect schemas n readonly w ≡ happens [] (ask schemas n readonly w c)
        connects is = connects_so None allowed ∙ ap (λ b. let made : Outcome F = cond b (Err Limit) (happens [] (ask schemas n readonly w c)) in made) is

  module _ (k : ℕ) (s : Session) (here : session_at k w.room ≡ Some s) (channel : Channel) (there : slice_get w.channels k ≡ Some channel) where
    pub handles : (trace : Bool) (said : ClientMessage) (messages : List ClientMessage) (replied : Replied) → channel.to_room ≡ said ∷ messages → after_message schemas.room w.room k said ≡ Some replied
        → on_handle schemas trace k w ≡ happens (trace_line trace (line.From k said)) (with_channel k (record channel { to_room = messages }) (record w { room = replied.room }))
    handles trace said messages replied first is =
        in_session w k s here channel there _ ∙ ap (handle_first schemas trace k w channel) first
        ∙ ap (λ (o : Option Replied). let made : Outcome F = happens (trace_line trace (line.From k said)) (with_channel k (record channel { to_room = messages }) (record w { room = option_map_or (λ (a : Replied). a.room) o w.room })) in made) is

    pub handles_nothing : (trace : Bool) → channel.to_room ≡ [] → on_handle schemas trace k w ≡ Err NothingThere
    handles_nothing trace is = in_session w k s here channel there _ ∙ ap (handle_first schemas trace k w channel) is

    pub sends : (trace : Bool) (given : Given) → next_for schemas.room w.room k ≡ Some given
        → on_send schemas trace k w ≡ happens (trace_line trace (out_line k given.out)) (with_channel k (record channel { to_client = channel.to_client ++ given.notice ∷ [] }) (record w { room = after_drain w.room k given }))
    sends trace given is = in_session w k s here channel there _ ∙ if_some _ (next_for schemas.room w.room k) (Err NothingThere) given is

    pub sends_nothing : (trace : Bool) → next_for schemas.room w.room k ≡ None → on_send schemas trace k w ≡ Err NothingThere
    sends_nothing trace is = in_session w k s here channel there _ ∙ if_none _ (next_for schemas.room w.room k) (Err NothingThere) is

-- a presence that is set is pushed as all that is pending is
pub presence_pushes : (d : Data) (c : Client) → push_all (cond (is_open c.connection) (with_work (presence d) (record c { presence = Some d })) (record c { presence = Some d })) ≡ after_presence d c
presence_pushes d c =
    let set : Client = record c { presence = Some d } in
    elim (is_open c.connection) as (λ b. is_open c.connection ≡ b → push_all (cond b (with_work (presence d) set) set) ≡ cond b (push_all (with_work (presence d) set)) (push_none set)) [
      | true ↦ λ is. refl
      | false ↦ λ is. pushed_none (length set.pending) set (ap (λ b. cond (b && nat_lt set.pushes MOST_PUSHES) (option_map (push_one set) (first_unsent set.pending)) None) is)
    ] refl

-- a client that pushes: the room stays, the client is set, and what it pushes goes behind what its session sent, if that is in the room
module _ (w : World) (n : ℕ) (p : Pushing) where
  with_messages_room : (k : ℕ) → (with_messages k p.messages (with_client n p.client w)).room ≡ w.room
  with_messages_room k =
      elim (session_at k w.room) as (λ o. (cond (option_map_or (λ (s : Session). true) o false) (option_map_or (λ channel. with_channel k (record channel { to_room = channel.to_room ++ p.messages }) (with_client n p.client w)) (slice_get w.channels k) (with_client n p.client w)) (with_client n p.client w)).room ≡ w.room) [
        | None ↦ refl
        | Some s ↦ elim (slice_get w.channels k) as (λ o. (option_map_or (λ channel. with_channel k (record channel { to_room = channel.to_room ++ p.messages }) (with_client n p.client w)) o (with_client n p.client w)).room ≡ w.room) [ None ↦ refl | Some channel ↦ refl ]
      ]

  pub pushing_room : (with_pushing n p w).room ≡ w.room
  pushing_room = elim (session_of p.client.connection) as (λ o. (option_map_or (λ k. with_messages k p.messages (with_client n p.client w)) o (with_client n p.client w)).room ≡ w.room) [ None ↦ refl | Some k ↦ with_messages_room k ]

  with_messages_clients : (k : ℕ) → (with_messages k p.messages (with_client n p.client w)).clients ≡ slice_set w.clients n p.client
  with_messages_clients k =
      elim (session_at k w.room) as (λ o. (cond (option_map_or (λ (s : Session). true) o false) (option_map_or (λ channel. with_channel k (record channel { to_room = channel.to_room ++ p.messages }) (with_client n p.client w)) (slice_get w.channels k) (with_client n p.client w)) (with_client n p.client w)).clients ≡ slice_set w.clients n p.client) [
        | None ↦ refl
        | Some s ↦ elim (slice_get w.channels k) as (λ o. (option_map_or (λ channel. with_channel k (record channel { to_room = channel.to_room ++ p.messages }) (with_client n p.client w)) o (with_client n p.client w)).clients ≡ slice_set w.clients n p.client) [ None ↦ refl | Some channel ↦ refl ]
      ]

  pub pushing_clients : (with_pushing n p w).clients ≡ slice_set w.clients n p.client
  pushing_clients = elim (session_of p.client.connection) as (λ o. (option_map_or (λ k. with_messages k p.messages (with_client n p.client w)) o (with_client n p.client w)).clients ≡ slice_set w.clients n p.client) [ None ↦ refl | Some k ↦ with_messages_clients k ]

  -- without a session nothing is sent
  pub pushing_none : session_of p.client.connection ≡ None → sent_by (with_pushing n p w).channels ≡ sent_by w.channels
  pushing_none is = ap (λ (v : World). sent_by v.channels) (if_none _ (session_of p.client.connection) (with_client n p.client w) is)

  module _ (k : ℕ) (has : session_of p.client.connection ≡ Some k) where
    pushing_so : with_pushing n p w ≡ with_messages k p.messages (with_client n p.client w)
    pushing_so = if_some _ (session_of p.client.connection) (with_client n p.client w) k has

    -- to a session that has left nothing is sent
    pub pushing_gone : session_at k w.room ≡ None → sent_by (with_pushing n p w).channels ≡ sent_by w.channels
    pushing_gone is =
        ap (λ (v : World). sent_by v.channels) pushing_so
        ∙ ap (λ (o : Option Session). sent_by (cond (option_map_or (λ (s : Session). true) o false) (option_map_or (λ channel. with_channel k (record channel { to_room = channel.to_room ++ p.messages }) (with_client n p.client w)) (slice_get w.channels k) (with_client n p.client w)) (with_client n p.client w)).channels) is

    pub pushing_here : (s : Session) → session_at k w.room ≡ Some s → sent_by (with_pushing n p w).channels ≡ slice_set (sent_by w.channels) k (get_or (sent_by w.channels) k [] ++ p.messages)
    pushing_here s is =
        ap (λ (v : World). sent_by v.channels) pushing_so
        ∙ ap (λ (o : Option Session). sent_by (cond (option_map_or (λ (s : Session). true) o false) (option_map_or (λ channel. with_channel k (record channel { to_room = channel.to_room ++ p.messages }) (with_client n p.client w)) (slice_get w.channels k) (with_client n p.client w)) (with_client n p.client w)).channels) is
        ∙ elim (slice_get w.channels k) as (λ o. slice_get w.channels k ≡ o → sent_by (option_map_or (λ channel. with_channel k (record channel { to_room = channel.to_room ++ p.messages }) (with_client n p.client w)) o (with_client n p.client w)).channels
        ≡ slice_set (sent_by w.channels) k (get_or (sent_by w.channels) k [] ++ p.messages)) [
          | None ↦ λ none. sym (sent_past w.channels k (get_or (sent_by w.channels) k [] ++ p.messages) none)
          | Some channel ↦ λ at. sent_set w.channels k (record channel { to_room = channel.to_room ++ p.messages }) ∙ ap (λ q. slice_set (sent_by w.channels) k (q ++ p.messages)) (sym (sent_at w.channels k channel at))
        ] refl
