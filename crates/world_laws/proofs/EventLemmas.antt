-- What each event does to a world, as one of eight changes; and what every change keeps.
use Rattle.std.proofs.Common.{◌≡◌, ℕ, ◌++◌, Bool, true, false, cond, List, [], ◌∷◌, length, slice_get, Option, Some, None, Ok, Err, Result, refl, ap, subst}
use Rattle.std.specs.Prelude.{nat_le, unwrap_or, option_map, filter_map}
use Rattle.std.specs.List.{list_any, after_last}
use Rattle.std.specs.Option.{option_map_or}
use Rattle.rooms_val.specs.Data.{Data}
use Rattle.rooms_val.specs.View.{data_of}
use Rattle.rooms_val.specs.Maps.{AreRising}
use Rattle.field_ops.specs.RecordOps.{RecordOps}
use Rattle.doc_model.specs.Marks as marks
use Rattle.doc_model.specs.Marks.{Marks, Redo}
use Rattle.doc_model.specs.Merging.{merge}
use Rattle.doc_model.proofs.MergeLemmas.{rising-merge}
use Rattle.doc_model.proofs.InverseLemmas.{rising-inverse_diff}
use Rattle.room_model.specs.Clips.{ClipTree, TargetTree}
use Rattle.room_model.specs.Schemas.{WorldSchemas, AreLawfulTogether}
use Rattle.room_model.specs.Rooms.{Session, Room, Replied, session_at, after_message_in, after_message, leave, after_leave, Notice, Given, next_for, after_drain}
use Rattle.room_model.specs.Reachable.{Reachable}
use Rattle.room_model.specs.Replicas.{Work, edit, presence, Client, new_client, is_open, session_of, Pushing, push_none, push_all, with_work, after_presence, after_cut, after_notice, schema_of}
use Rattle.room_model.specs.Worlds.{Channel, World, world_over, with_client, with_channel, with_pushing, Outcome, happens, at_client, at_session, deliver_first, on_join, on_mark, on_cut, on_lose, on_deliver, is_at_limit, ask, connect_if_allowed, on_connect, shown_in, inverse_in, take_edit, on_edit, take_clip, on_copy, edit_pasted, on_paste, on_presence, after_marked, on_undo, on_redo, on_bail, handle_first, on_handle, on_send, on_show, after_event}
use Rattle.room_model.specs.declared.clip_fault.ClipFault.{ClipFault}
use Rattle.room_model.specs.declared.clip_fault.PasteFault.{PasteFault}
use Rattle.room_model.specs.declared.event.Event.{Event}
use Rattle.room_model.specs.declared.event.Event.TheVariants as event
use Rattle.room_model.specs.declared.fault.StepFault.TheVariants.{Limit}
use Rattle.room_model.specs.declared.limits.TheConstants.{MOST_CLIENTS}
use Rattle.sync_msgs.specs.declared.client_message.ClientMessage.{ClientMessage}
use Rattle.sync_msgs.specs.declared.end_reason.EndReason.{EndReason}
use Rattle.world_laws.specs.Reachable.{ReachableWorld, begun, stepped}

-- what a client would do again rises
abbrev pub AreRisingRedos : List Redo → Type 0
AreRisingRedos [] = Unit {0}
AreRisingRedos (redo ∷ redos) = AreRising redo.diff × AreRisingRedos redos

-- a client that changed its marks or its presence alone; what it would do again still rises
pub record Quiet (before after : Client) : Type 0 where
  pub version : after.version ≡ before.version
  pub connection : after.connection ≡ before.connection
  pub reached : after.reached ≡ before.reached
  pub pending : after.pending ≡ before.pending
  pub refused : after.refused ≡ before.refused
  pub pushes : after.pushes ≡ before.pushes
  pub redos : AreRisingRedos before.marks.redos → AreRisingRedos after.marks.redos

-- the diff of a work rises
abbrev pub IsRisingWork : Work → Type 0
IsRisingWork (edit diff) = AreRising diff
IsRisingWork (presence d) = Unit {0}

-- a work is an edit, or the client is connected
abbrev pub IsInPlace : Client → Work → Type 0
IsInPlace client (edit diff) = Unit {0}
IsInPlace client (presence d) = is_open client.connection ≡ true

-- what a client does by itself: it gives nothing, or a work
pub data Acts {F : Type 0} (schemas : WorldSchemas F) (client : Client) : Pushing → Type 0 where
  rests : (after : Client) → Quiet client after → Acts schemas client (push_none after)
  works : (after : Client) (work : Work) → Quiet client after → IsInPlace client work
      → (AreLawfulTogether schemas → AreRisingRedos client.marks.redos → IsRisingWork work) → Acts schemas client (push_all (with_work work after))

-- what each change of a world that can be reached keeps
pub record Keeps {F : Type 0} (schemas : WorldSchemas F) (P : World → Type 0) : Type 0 where
  pub joins : (w : World) (version : ℕ) → ReachableWorld schemas w → P w → P (record w { clients = w.clients ++ new_client version ∷ [] })
  pub rests : (w : World) (n : ℕ) (c d : Client) → ReachableWorld schemas w → slice_get w.clients n ≡ Some c → Quiet c d → P w → P (with_client n d w)
  pub cuts : (w : World) (n session : ℕ) (c : Client) → ReachableWorld schemas w → slice_get w.clients n ≡ Some c → session_of c.connection ≡ Some session
      → P w → P (with_client n (after_cut c) w)
  pub acts : (w : World) (n : ℕ) (c : Client) (p : Pushing) → ReachableWorld schemas w → slice_get w.clients n ≡ Some c → Acts schemas c p
      → P w → P (with_pushing n p w)
  pub asks : (w : World) (n : ℕ) (readonly : Bool) (c : Client) → ReachableWorld schemas w → slice_get w.clients n ≡ Some c → session_of c.connection ≡ None
      → is_at_limit w ≡ false → P w → P (ask schemas n readonly w c)
  pub loses : (w : World) (k : ℕ) (channel : Channel) (room : Room) → ReachableWorld schemas w → slice_get w.channels k ≡ Some channel
      → after_leave w.room k ≡ Some room → P w → P (with_channel k (record channel { to_room = [] }) (record w { room = room }))
  pub handles : (w : World) (k : ℕ) (channel : Channel) (said : ClientMessage) (messages : List ClientMessage) (replied : Replied) → ReachableWorld schemas w
      → slice_get w.channels k ≡ Some channel → channel.to_room ≡ said ∷ messages → after_message schemas.room w.room k said ≡ Some replied
      → P w → P (with_channel k (record channel { to_room = messages }) (record w { room = replied.room }))
  pub sends : (w : World) (k : ℕ) (channel : Channel) (given : Given) → ReachableWorld schemas w → slice_get w.channels k ≡ Some channel
      → next_for schemas.room w.room k ≡ Some given
      → P w → P (with_channel k (record channel { to_client = channel.to_client ++ given.notice ∷ [] }) (record w { room = after_drain w.room k given }))
  pub delivers : (w : World) (n k : ℕ) (c : Client) (channel : Channel) (notice : Notice) (notices : List Notice) → ReachableWorld schemas w
      → slice_get w.clients n ≡ Some c → session_of c.connection ≡ Some k → slice_get w.channels k ≡ Some channel → channel.to_client ≡ notice ∷ notices
      → P w → P (with_pushing n (after_notice w.room.history k c notice) (with_channel k (record channel { to_client = notices }) w))

module _ {F : Type 0} (P : World → Type 0) where
  -- something holds of the world that an event makes, if it can happen
  abbrev pub Holds : Outcome F → Type 0
  Holds (Ok made) = P made.world
  Holds (Err fault) = Unit {0}

  pub from_option : {X : Type 0} (next : X → Outcome F) (o : Option X) (other : Outcome F) → (o ≡ None → Holds other) → ((x : X) → o ≡ Some x → Holds (next x)) → Holds (option_map_or next o other)
  from_option next None other h k = h refl
  from_option next (Some x) other h k = k x refl

  pub in_session : (k : ℕ) (w : World) (next : Channel → Outcome F)
      → ((s : Session) (channel : Channel) → session_at k w.room ≡ Some s → slice_get w.channels k ≡ Some channel → Holds (next channel)) → Holds (at_session k w next)
  in_session k w next h = from_option _ (session_at k w.room) _ (λ none. tt) (λ s there. from_option next (slice_get w.channels k) _ (λ none. tt) (λ channel at. h s channel there at))

-- a change of the marks alone
marked : (c : Client) (ms : Marks) → (AreRisingRedos c.marks.redos → AreRisingRedos ms.redos) → Quiet c (record c { marks = ms })
marked c ms h = record { version = refl; connection = refl; reached = refl; pending = refl; refused = refl; pushes = refl; redos = h }

rising_merged : (diffs : List RecordOps) (diff : RecordOps) → marks.merge_some diffs ≡ Some diff → AreRising diff
rising_merged [] diff is = absurd (cc)
rising_merged (d ∷ diffs) diff is = let same : merge (d ∷ diffs) ≡ diff = cc in subst AreRising same (rising-merge (d ∷ diffs))

module _ {F : Type 0} (schemas : WorldSchemas F) (P : World → Type 0) (keeps : Keeps schemas P) where
  module _ (w : World) (made : ReachableWorld schemas w) (h : P w) where
    in_client : (n : ℕ) (next : Client → Outcome F) → ((c : Client) → slice_get w.clients n ≡ Some c → Holds P (next c)) → Holds P (at_client n w next)
    in_client n next k = from_option P next (slice_get w.clients n) _ (λ none. tt) k

    if_allowed : (b : Bool) (other next : Outcome F) → Holds P other → (b ≡ false → Holds P next) → Holds P (cond b other next)
    if_allowed true other next k l = k
    if_allowed false other next k l = l refl

    join_keeps : (version : ℕ) → Holds {F = F} P (on_join version w)
    join_keeps version =
        let next : Outcome F = happens [] (record w { clients = w.clients ++ new_client version ∷ [] }) in
        if_allowed (nat_le MOST_CLIENTS (length w.clients)) (Err Limit) next tt (λ is. keeps.joins w version made h)

    mark_keeps : (n : ℕ) (name : List ℕ) → Holds {F = F} P (on_mark n name w)
    mark_keeps n name = in_client n _ (λ c at. keeps.rests w n c _ made at (marked c (marks.after_mark name c.marks) (λ r. r)) h)

    cut_keeps : (n : ℕ) → Holds {F = F} P (on_cut n w)
    cut_keeps n = in_client n _ (λ c at. from_option P _ (session_of c.connection) _ (λ none. tt) (λ k is. keeps.cuts w n k c made at is h))

    lose_keeps : (k : ℕ) → Holds {F = F} P (on_lose k w)
    lose_keeps k = in_session P k w _ (λ s channel there at.
        elim (after_leave w.room k) as (λ o. after_leave w.room k ≡ o → P (with_channel k (record channel { to_room = [] }) (record w { room = unwrap_or o w.room }))) [
          | None ↦ λ none. absurd (cc (ap (option_map (λ session. leave k session w.room)) there))
          | Some room ↦ λ is. keeps.loses w k channel room made at is h
        ] refl)

    deliver_keeps : (n : ℕ) → Holds {F = F} P (on_deliver n w)
    deliver_keeps n = in_client n _ (λ c at. from_option P _ (session_of c.connection) _ (λ none. tt) (λ k is. from_option P _ (slice_get w.channels k) _ (λ none. tt) (λ channel there.
        elim channel.to_client as (λ ns. channel.to_client ≡ ns → Holds {F = F} P (deliver_first n k w c channel ns)) [
          | [] ↦ λ none. tt
          | (notice ∷ notices) ↦ λ first. keeps.delivers w n k c channel notice notices made at is there first h
        ] refl)))

    allowed_keeps : (n : ℕ) (readonly : Bool) (c : Client) → slice_get w.clients n ≡ Some c → session_of c.connection ≡ None → (reason : Option EndReason) → Holds P (connect_if_allowed schemas n readonly w c reason)
    allowed_keeps n readonly c at off (Some reason) = tt
    allowed_keeps n readonly c at off None = if_allowed (is_at_limit w) _ _ tt (λ is. keeps.asks w n readonly c made at off is h)

    connect_keeps : (n : ℕ) (readonly : Bool) → Holds P (on_connect schemas n readonly w)
    connect_keeps n readonly = in_client n _ (λ c at. from_option P _ (session_of c.connection) _ (λ off. allowed_keeps n readonly c at off c.refused) (λ k is. tt))

    taken_edit : (n : ℕ) (c : Client) (wanted : RecordOps) (o : Result RecordOps F) → slice_get w.clients n ≡ Some c
        → (schema_of schemas c).complete (shown_in schemas w c) wanted ≡ o → Holds P (take_edit schemas n w c o)
    taken_edit n c wanted (Err fault) at is = tt
    taken_edit n c wanted (Ok diff) at is =
        let d : Client = record c { marks = marks.after_edit (inverse_in schemas w c diff) c.marks } in
        keeps.acts w n c _ made at (works d (edit diff) (marked c d.marks (λ r. tt)) tt (λ lawful r. lawful.completed_rises c.version (shown_in schemas w c) wanted diff is)) h

    edit_keeps : (n : ℕ) (wanted : RecordOps) → Holds P (on_edit schemas n wanted w)
    edit_keeps n wanted = in_client n _ (λ c at. taken_edit n c wanted _ at refl)

    paste_kept : (n : ℕ) (o : Result RecordOps PasteFault) → Holds P (edit_pasted schemas n w o)
    paste_kept n (Err fault) = tt
    paste_kept n (Ok wanted) = edit_keeps n wanted

    copy_kept : (n : ℕ) (c : Client) (o : Result ClipTree ClipFault) → slice_get w.clients n ≡ Some c → Holds {F = F} P (take_clip schemas n w c o)
    copy_kept n c (Err fault) at = tt
    copy_kept n c (Ok clip) at =
        let quiet : Quiet c (record c { clip = Some clip }) = record { version = refl; connection = refl; reached = refl; pending = refl; refused = refl; pushes = refl; redos = λ r. r } in
        keeps.rests w n c (record c { clip = Some clip }) made at quiet h

    copy_keeps : (n : ℕ) (ids : List (List ℕ)) → Holds P (on_copy schemas n ids w)
    copy_keeps n ids = in_client n _ (λ c at. copy_kept n c _ at)

    paste_keeps : (n : ℕ) (target : TargetTree) → Holds P (on_paste schemas n target w)
    paste_keeps n target = in_client n _ (λ c at. from_option P _ c.clip _ (λ none. tt) (λ clip is. paste_kept n (schemas.clips.pasted clip (shown_in schemas w c) target)))

    presence_set : (n : ℕ) (d : Data) (c : Client) → slice_get w.clients n ≡ Some c → P (with_pushing n (after_presence d c) w)
    presence_set n d c at =
        let set : Client = record c { presence = Some d } in
        let quiet : Quiet c set = record { version = refl; connection = refl; reached = refl; pending = refl; refused = refl; pushes = refl; redos = λ r. r } in
        elim (is_open c.connection) as (λ b. is_open c.connection ≡ b → P (with_pushing n (cond b (push_all (with_work (presence d) set)) (push_none set)) w)) [
          | true ↦ λ is. keeps.acts w n c _ made at (works set (presence d) quiet is (λ lawful r. tt)) h
          | false ↦ λ is. keeps.acts w n c _ made at (rests set quiet) h
        ] refl

    presence_keeps : (n : ℕ) (d : Data) → Holds P (on_presence schemas n d w)
    presence_keeps n d = in_client n _ (λ c at. from_option P _ ((schema_of schemas c).presence_fault d) _ (λ none. presence_set n d c at) (λ fault is. tt))

    marked_keeps : (n : ℕ) (c : Client) (diff : RecordOps) (ms : Marks) → slice_get w.clients n ≡ Some c
        → (AreRisingRedos c.marks.redos → AreRisingRedos ms.redos) → (AreRisingRedos c.marks.redos → AreRising diff) → P (after_marked schemas n w c diff ms)
    marked_keeps n c [] ms at redos rising = keeps.acts w n c _ made at (rests (record c { marks = ms }) (marked c ms redos)) h
    marked_keeps n c (e ∷ diff) ms at redos rising =
        keeps.acts w n c _ made at (works (record c { marks = ms }) (edit (e ∷ diff)) (marked c ms redos) tt (λ lawful r. rising r)) h

    undo_keeps : (n : ℕ) → Holds P (on_undo schemas n w)
    undo_keeps n = in_client n _ (λ c at. from_option P _ (marks.undo_diff c.marks) _ (λ none. h) (λ diff is.
        marked_keeps n c diff _ at (λ r. (rising-inverse_diff (schema_of schemas c).admits (shown_in schemas w c) diff, r))
        (λ r. rising_merged (marks.parts_of c.marks.history).taken diff is)))

    redos_after : (back : RecordOps) (items : List marks.Item) (redos : List Redo) → AreRisingRedos redos → AreRisingRedos (marks.after_first_redo back items redos).redos
    redos_after back items [] r = tt
    redos_after back items (redo ∷ redos) r = r.1

    redo_rises : (redos : List Redo) (diff : RecordOps) → marks.first_redo redos ≡ Some diff → AreRisingRedos redos → AreRising diff
    redo_rises [] diff is r = absurd (cc)
    redo_rises (redo ∷ redos) diff is r = let same : redo.diff ≡ diff = cc in subst AreRising same r.0

    redo_keeps : (n : ℕ) → Holds P (on_redo schemas n w)
    redo_keeps n = in_client n _ (λ c at. from_option P _ (marks.redo_diff c.marks) _ (λ none. h) (λ diff is.
        marked_keeps n c diff _ at (redos_after (inverse_in schemas w c diff) c.marks.history c.marks.redos) (redo_rises c.marks.redos diff is)))

    bail_rises : (b : Bool) (diffs : List RecordOps) (diff : RecordOps) → cond b (Some (merge diffs)) None ≡ Some diff → AreRising diff
    bail_rises true diffs diff is = let same : merge diffs ≡ diff = cc in subst AreRising same (rising-merge diffs)
    bail_rises false diffs diff is = absurd (cc)

    bail_keeps : (n : ℕ) (name : List ℕ) → Holds P (on_bail schemas n name w)
    bail_keeps n name = in_client n _ (λ c at. from_option P _ (marks.bail_diff name c.marks) _ (λ none. tt) (λ diff is.
        marked_keeps n c diff _ at (λ r. tt) (λ r. bail_rises (list_any (marks.is_named name) c.marks.history) (filter_map marks.diff_in (after_last (marks.is_named name) c.marks.history)) diff is)))

    handle_keeps : (trace : Bool) (k : ℕ) → Holds P (on_handle schemas trace k w)
    handle_keeps trace k = in_session P k w _ (λ s channel there at.
        elim channel.to_room as (λ ms. channel.to_room ≡ ms → Holds P (handle_first schemas trace k w channel ms)) [
          | [] ↦ λ none. tt
          | (said ∷ messages) ↦ λ first.
              elim (after_message schemas.room w.room k said) as (λ o. after_message schemas.room w.room k said ≡ o
              → P (with_channel k (record channel { to_room = messages }) (record w { room = option_map_or (λ a. a.room) o w.room }))) [
                | None ↦ λ none. absurd (cc (ap (option_map (λ session. after_message_in schemas.room k session w.room said session.phase)) there))
                | Some replied ↦ λ is. keeps.handles w k channel said messages replied made at first is h
              ] refl
        ] refl)

    send_keeps : (trace : Bool) (k : ℕ) → Holds P (on_send schemas trace k w)
    send_keeps trace k = in_session P k w _ (λ s channel there at. from_option P _ (next_for schemas.room w.room k) _ (λ none. tt) (λ given is. keeps.sends w k channel given made at is h))

    show_keeps : (n : ℕ) → Holds P (on_show schemas n w)
    show_keeps n = in_client n _ (λ c at. h)

    pub event_keeps : (trace : Bool) (e : Event) → Holds P (after_event schemas trace w e)
    event_keeps trace (event.Client version) = join_keeps version
    event_keeps trace (event.Connect client readonly) = connect_keeps client readonly
    event_keeps trace (event.Edit client diff) = edit_keeps client diff
    event_keeps trace (event.Presence client val) = presence_keeps client (data_of val)
    event_keeps trace (event.Mark client name) = mark_keeps client name
    event_keeps trace (event.Undo client) = undo_keeps client
    event_keeps trace (event.Redo client) = redo_keeps client
    event_keeps trace (event.Bail client name) = bail_keeps client name
    event_keeps trace (event.Copy client ids) = copy_keeps client ids
    event_keeps trace (event.Paste client dx dy parent prefix) = paste_keeps client (record { prefix = prefix; parent = parent; dx = dx; dy = dy })
    event_keeps trace (event.Handle session) = handle_keeps trace session
    event_keeps trace (event.Send session) = send_keeps trace session
    event_keeps trace (event.Deliver client) = deliver_keeps client
    event_keeps trace (event.Cut client) = cut_keeps client
    event_keeps trace (event.Lose session) = lose_keeps session
    event_keeps trace (event.Show client) = show_keeps client
    event_keeps trace event.End = h

  -- what every change keeps holds of all worlds that can be reached
  pub everywhere : ((room : Room) → Reachable schemas.room room → room.sessions ≡ [] → P (world_over room)) → (w : World) → ReachableWorld schemas w → P w
  everywhere begins _ (begun room calls none) = begins room calls none
  everywhere begins _ (stepped trace w e reached before is) = subst (Holds P) is (event_keeps w before (everywhere begins w before) trace e)
