-- A client of a world is given what is in flight to it.
use Rattle.std.proofs.Common.{◌≡◌, ℕ, ℤ, Bool, ◌<◌, false, List, [], ◌∷◌, drop, map, get_or, slice_get, slice_set, Some, None, Ok, Err, refl, sym, ap, subst, ◌∙◌, arith}
use Rattle.std.specs.Prelude.{vec_len}
use Rattle.std.specs.Global.{Vec}
use Rattle.std.specs.Option.{option_map_or}
use Rattle.std.proofs.lemmas.List.{set-get_or}
use Rattle.room_model.specs.Schemas.{WorldSchemas, records_with}
use Rattle.room_model.specs.Histories.{History}
use Rattle.room_model.specs.Rooms.{Notice, snapshot_at, updates_between, pong, end}
use Rattle.room_model.specs.Replicas.{Client, session_of, push_all, push_none, after_end, after_notice, base_of, schema_of}
use Rattle.room_model.specs.Worlds as model
use Rattle.room_model.specs.Worlds.{Channel, with_client, with_channel, with_pushing, notice_lines, on_deliver}
use Rattle.room_model.specs.declared.event.Event.TheVariants as event
use Rattle.room_model.specs.declared.fault.StepFault.TheVariants.{NoSuchSession, NothingThere}
use Rattle.room_model.specs.declared.line.OutLine.{OutLine}
use Rattle.room_model.specs.declared.line.OutLine.TheVariants as line
use Rattle.side_effects.specs.declared.fault.EditFault.{EditFault}
use Rattle.sync_msgs.specs.declared.end_reason.EndReason.{EndReason}
use Rattle.sync_msgs.specs.declared.end_reason.EndReason.TheVariants.{ClientTooOld, ServerTooOld, InvalidRecord, RoomFull, Slow}
use Rattle.sync_msgs.specs.declared.out.Out.{Out}
use Rattle.sync_msgs.specs.declared.out.Out.TheVariants.{Message, End}
use Rattle.sync_msgs.specs.declared.data_event.DataEvent.{DataEvent}
use Rattle.sync_msgs.specs.declared.server_message.Hydration.{Hydration}
use Rattle.migrate_seq.specs.Versions.{Versions}
use Rattle.field_ops.specs.RecordOps.{RecordOps}
use Rattle.sync_msgs.specs.declared.server_message.ServerMessage.{ServerMessage}
use Rattle.sync_msgs.specs.declared.server_message.ServerMessage.TheVariants as message
use Rattle.sync_client.specs.Calls.{ClientState, after_message}
use Rattle.sync_room.specs.Standing as room_of
use Rattle.sync_peer.specs.Standing as peer_of
use Rattle.sync_peer.specs.declared.peer.Peer.{Peer}
use Rattle.world_laws.specs.Told.{told, replica_of, IsExpected, IsTaken}
use Rattle.world_laws.specs.Queues.{queues_after}
use Rattle.world_laws.proofs.LaterLemmas.{got_at}
use Rattle.world_laws.proofs.SessionLemmas.{sessions_stand}
use Rattle.world_laws.proofs.TakenLemmas.{takes_next}
use Rattle.world_queues.specs.Queues.{to_room, to_client, queue_at, without_first}
use Rattle.sync_world.specs.States.{client_state}
use Rattle.sync_world.specs.Keeping.{AreKept}
use Rattle.sync_world.specs.Moving.{IsDelivery}
use Rattle.sync_world.specs.Standing.{IsClient, Fits, Keeps}
use Rattle.sync_world.specs.Answers.{Answers}
use Rattle.sync_world.specs.declared.live.Live.{Live}
use Rattle.sync_world.specs.declared.live.WorldClient.{WorldClient}
use Rattle.sync_world.proofs.ListLemmas.{got_some}
use Rattle.sync_world.proofs.WorldLemmas.{sent_still}
use Rattle.sync_world.proofs.OutcomeLemmas.{delivers, delivers_nothing, delivers_none}
use Rattle.sync_world.proofs.TakeLemmas.{arrived, arrives}
use Rattle.sync_world.proofs.PartLemmas.{happened, fits_with, fits_client, fits_idle, client_is, pushing_over}
use Rattle.sync_world.proofs.EventLemmas.{IsThere, is_there, document_is, head_none, keeps_alike}
use Rattle.peer_schemas.proofs.ClientLemmas.{lawful}

arrived_session : (history : History) (k : ℕ) (c : Client) (notice : Notice) → session_of c.connection ≡ Some k → session_of (arrived history k c notice).connection ≡ Some k
arrived_session history k c (snapshot_at clock) is = refl
arrived_session history k c (updates_between from to) is = is
arrived_session history k c pong is = is
arrived_session history k c (end reason) is = is

ended_clip : (c : Client) (reason : EndReason) → (after_end reason c).clip ≡ c.clip
ended_clip c Slow = refl
ended_clip c ClientTooOld = refl
ended_clip c ServerTooOld = refl
ended_clip c InvalidRecord = refl
ended_clip c RoomFull = refl

-- what arrives leaves what was copied
arrived_clip : (history : History) (k : ℕ) (c : Client) (notice : Notice) → (arrived history k c notice).clip ≡ c.clip
arrived_clip history k c (snapshot_at clock) = refl
arrived_clip history k c (updates_between from to) = refl
arrived_clip history k c pong = refl
arrived_clip history k c (end reason) = refl

-- an answer is what a snapshot tells, after which the client pushes; after anything else it does not
module _ (schemas : WorldSchemas EditFault) (w : model.World) (c : Client) (k : ℕ) (h : History) where
  pub answer_pushes : (notice : Notice) (hydration : Hydration) (request : List ℕ) (protocol : ℤ) (versions : Versions) (diff : RecordOps) (clock : ℤ) (readonly : Bool)
      → Message (message.Connect hydration request protocol versions diff clock readonly) ≡ told schemas w.room c k notice → after_notice h k c notice ≡ push_all (arrived h k c notice)
  answer_pushes (snapshot_at at) hydration request protocol versions diff clock readonly is = refl
  answer_pushes (updates_between from to) hydration request protocol versions diff clock readonly is = absurd (cc)
  answer_pushes pong hydration request protocol versions diff clock readonly is = absurd (cc)
  answer_pushes (end reason) hydration request protocol versions diff clock readonly is = absurd (cc)

  pub data_rests : (notice : Notice) (events : List DataEvent) → Message (message.Data events) ≡ told schemas w.room c k notice → after_notice h k c notice ≡ push_none (arrived h k c notice)
  data_rests (snapshot_at at) events is = absurd (cc)
  data_rests (updates_between from to) events is = refl
  data_rests pong events is = refl
  data_rests (end reason) events is = absurd (cc)

  pub pong_rests : (notice : Notice) → Message message.Pong ≡ told schemas w.room c k notice → after_notice h k c notice ≡ push_none (arrived h k c notice)
  pong_rests (snapshot_at at) is = absurd (cc)
  pong_rests (updates_between from to) is = refl
  pong_rests pong is = refl
  pong_rests (end reason) is = absurd (cc)

module _ (schemas : WorldSchemas EditFault) (w : model.World) (live : Live) (fits : Fits schemas w live) (at : ℕ) (c : Client) (one : WorldClient) (less : at < vec_len live.clients)
    (made : slice_get w.clients at ≡ Some c) (is : one ≡ get_or live.clients.items at one) (k : ℕ) (said : ServerMessage) (notice : Notice)
    (delivery : IsDelivery schemas w c k (Message said) notice) (after : Peer) (mid : Live) (room : mid.room ≡ live.room) (queues : mid.queues ≡ live.queues)
    (set : mid.clients.items ≡ slice_set live.clients.items at (record one { peer = after }))
    (took : (schemas : WorldSchemas EditFault) (state : ClientState) → peer_of.Stands schemas state one.peer
    → peer_of.Stands schemas (after_message (schema_of schemas state.client).admits schemas.room.is_document state said) after) where
  come : Fits schemas (with_client at (arrived w.room.history k c notice) w) mid
  come =
      let kept = client_is schemas w live fits at c one less made is in
      fits_client schemas w live fits at (arrived w.room.history k c notice) (record one { peer = after }) mid
      (record {
        peer = subst (λ state. peer_of.Stands schemas state after) (arrives schemas w.room c k said notice delivery.told delivery.expected delivery.taken) (took schemas (client_state schemas w.room.history c) kept.peer);
        session = kept.session ∙ delivery.session ∙ sym (arrived_session w.room.history k c notice delivery.session);
        clip = kept.clip ∙ sym (arrived_clip w.room.history k c notice);
      }) room queues set

  -- it was connected, and has pushed
  pub taken_answer : after_notice w.room.history k c notice ≡ push_all (arrived w.room.history k c notice) → (new : Live)
      → ((schemas : WorldSchemas EditFault) (world : model.World) (client : Client) → Fits schemas world mid → slice_get world.clients at ≡ Some client → Fits schemas (with_pushing at (push_all client) world) new)
      → Fits schemas (with_pushing at (after_notice w.room.history k c notice) w) new
  taken_answer same new pushes =
      let d = arrived w.room.history k c notice in
      subst (λ p. Fits schemas (with_pushing at p w) new) (sym same)
      (subst (λ (v : model.World). Fits schemas v new) (pushing_over schemas w at d (push_all d)) (pushes schemas (with_client at d w) d come (got_at w.clients at c d made)))

  -- it was told something else
  pub taken_data : after_notice w.room.history k c notice ≡ push_none (arrived w.room.history k c notice) → Fits schemas (with_pushing at (after_notice w.room.history k c notice) w) mid
  taken_data same = subst (λ p. Fits schemas (with_pushing at p w) mid) (sym same) (fits_idle schemas w at (arrived w.room.history k c notice) mid come)

-- only an end is told as one
end_is : (schemas : WorldSchemas EditFault) (w : model.World) (c : Client) (k : ℕ) (reason : EndReason) (notice : Notice) → End reason ≡ told schemas w.room c k notice → notice ≡ end reason
end_is schemas w c k reason (snapshot_at at) is = absurd (cc)
end_is schemas w c k reason (updates_between from to) is = absurd (cc)
end_is schemas w c k reason pong is = absurd (cc)
end_is schemas w c k reason (end other) is = let same : reason ≡ other = cc in ap (λ r. end r) (sym same)

-- a client whose session is ended has no session, and of the room its document alone
ended_base : (schemas : WorldSchemas EditFault) (history : History) (c : Client) (reason : EndReason) → (replica_of schemas history (after_end reason c)).base ≡ base_of schemas history c
ended_base schemas history c Slow = refl
ended_base schemas history c ClientTooOld = refl
ended_base schemas history c ServerTooOld = refl
ended_base schemas history c InvalidRecord = refl
ended_base schemas history c RoomFull = refl

ended_session : (c : Client) (reason : EndReason) → session_of (after_end reason c).connection ≡ None
ended_session c Slow = refl
ended_session c ClientTooOld = refl
ended_session c ServerTooOld = refl
ended_session c InvalidRecord = refl
ended_session c RoomFull = refl

-- what a delivery prints of a message
message_lines : (schemas : WorldSchemas EditFault) (w : model.World) (c : Client) (k n : ℕ) (notice : Notice) (said : ServerMessage) → Message said ≡ told schemas w.room c k notice → notice_lines n notice ≡ []
message_lines schemas w c k n (snapshot_at at) said is = refl
message_lines schemas w c k n (updates_between from to) said is = refl
message_lines schemas w c k n pong said is = refl
message_lines schemas w c k n (end reason) said is = absurd (cc)

told_first : {X Y : Type 0} (f : X → Y) (xs : List X) (y : Y) → Some y ≡ slice_get (map f xs) 0 → (x : X) × ((rest : List X) × ((xs ≡ x ∷ rest) × (y ≡ f x)))
told_first f [] y is = absurd (cc)
told_first f (x ∷ xs) y is = (x, (xs, (refl, let same : y ≡ f x = cc in same)))

told_none : {X Y : Type 0} (f : X → Y) (xs : List X) → None ≡ slice_get (map f xs) 0 → xs ≡ []
told_none f [] is = refl
told_none f (x ∷ xs) is = absurd (cc)

module _ (schemas : WorldSchemas EditFault) (w : model.World) (live : Live) (keeps : Keeps schemas w live) (at : ℕ) (one : WorldClient) (less : at < vec_len live.clients)
    (is : one ≡ get_or live.clients.items at one) where
  pub deliver_refused : one.session ≡ None → Answers schemas w (on_deliver at w) (Err NoSuchSession) live
  deliver_refused none = let it = is_there schemas w live at at one keeps.fits refl less is in (delivers_none w at it.client it.made (sym it.kept.session ∙ none), keeps)

  module _ (k : ℕ) (session : one.session ≡ Some k) where
    it : IsThere schemas w at one
    it = is_there schemas w live at at one keeps.fits refl less is

    has : session_of it.client.connection ≡ Some k
    has = sym it.kept.session ∙ session

    the_channel : (channel : Channel) × (slice_get w.channels k ≡ Some channel)
    the_channel =
        let stand = sessions_stand schemas w keeps.reachable in
        let within = stand.entered at k (record { client = it.client; made = it.made; has = has }) in
        got_some w.channels k (omega (arith, stand.channels))

    tells : queue_at k (to_client live.queues) ≡ map (told schemas w.room it.client k) the_channel.0.to_client
    tells = keeps.given.told_are at k it.client the_channel.0 it.made has the_channel.1

    pub deliver_nothing : None ≡ slice_get (queue_at k (to_client live.queues)) 0 → (new : Live) → new.room ≡ live.room → new.clients ≡ live.clients
        → to_room new.queues ≡ to_room live.queues → to_client new.queues ≡ without_first k (to_client live.queues) → Answers schemas w (on_deliver at w) (Err NothingThere) new
    deliver_nothing none new room clients sent given =
        let empty = head_none (queue_at k (to_client live.queues)) none in (
          delivers_nothing w at it.client it.made k has the_channel.0 the_channel.1 (told_none (told schemas w.room it.client k) the_channel.0.to_client (none ∙ ap (λ q. slice_get q 0) tells)),
          keeps_alike schemas w live keeps new (subst (λ r. room_of.Stands w.room r) (sym room) keeps.fits.room) (ap room_of.tree_of room) (ap (λ (ks : Vec WorldClient). ks.items) clients) sent
              (given ∙ ap (λ q. slice_set (to_client live.queues) k (drop 1 q)) empty ∙ ap (slice_set (to_client live.queues) k) (sym empty) ∙ set-get_or (to_client live.queues) k []),
        )

    module _ (out : Out) (first : Some out ≡ slice_get (queue_at k (to_client live.queues)) 0) (popped : Live) (room : popped.room ≡ live.room) (clients : popped.clients ≡ live.clients)
        (sent : to_room popped.queues ≡ to_room live.queues) (given : to_client popped.queues ≡ without_first k (to_client live.queues)) where
      next : (notice : Notice) × ((notices : List Notice) × ((the_channel.0.to_client ≡ notice ∷ notices) × (out ≡ told schemas w.room it.client k notice)))
      next = told_first (told schemas w.room it.client k) the_channel.0.to_client out (first ∙ ap (λ q. slice_get q 0) tells)

      abbrev taken_off : model.World
      taken_off = with_channel k (record the_channel.0 { to_client = next.1.0 }) w

      off_fits : Fits schemas taken_off popped
      off_fits = fits_with schemas w live keeps.fits taken_off popped (subst (λ r. room_of.Stands w.room r) (sym room) keeps.fits.room) (ap room_of.tree_of room)
          (subst (λ ks. AreKept (IsClient schemas w.room.history) w.clients ks) (sym (ap (λ (ks : Vec WorldClient). ks.items) clients)) keeps.fits.clients)
          (sent ∙ keeps.fits.sent ∙ sym (sent_still w.channels k the_channel.0 (record the_channel.0 { to_client = next.1.0 }) the_channel.1 refl))

      law : IsExpected it.client k (told schemas w.room it.client k next.0) × IsTaken schemas w.room.history it.client (told schemas w.room it.client k next.0) (after_notice w.room.history k it.client next.0).client
      law = takes_next schemas w at k it.client the_channel.0 next.0 next.1.0 (lawful schemas keeps.fits.tables) keeps.reachable it.made has the_channel.1 next.1.1.0

      queues_are : queues_after schemas w (to_client live.queues) (event.Deliver at) ≡ without_first k (to_client live.queues)
      queues_are =
          ap (λ o. option_map_or (λ (c : Client). option_map_or (λ k. without_first k (to_client live.queues)) (session_of c.connection) (to_client live.queues)) o (to_client live.queues)) it.made
          ∙ ap (λ o. option_map_or (λ k. without_first k (to_client live.queues)) o (to_client live.queues)) has

      ends_in : (new : Live) (ls : List OutLine) (lines : Vec OutLine) → notice_lines at next.0 ≡ ls → lines.items ≡ ls → Fits schemas (with_pushing at (after_notice w.room.history k it.client next.0) taken_off) new
          → to_client new.queues ≡ to_client popped.queues → Answers schemas w (on_deliver at w) (Ok lines) new
      ends_in new ls lines says prints fits same =
          happened schemas w (with_pushing at (after_notice w.room.history k it.client next.0) taken_off) false (event.Deliver at) live new (notice_lines at next.0) lines keeps
          (delivers w at it.client it.made k has the_channel.0 the_channel.1 next.0 next.1.0 next.1.1.0) (prints ∙ sym says) fits (same ∙ given ∙ sym queues_are)

      pub deliver_message : (said : ServerMessage) → out ≡ Message said → (new : Live) → (lines : Vec OutLine) → lines.items ≡ []
          → ((schemas : WorldSchemas EditFault) (world : model.World) (client : Client) (k : ℕ) (notice : Notice) → Fits schemas world popped → slice_get world.clients at ≡ Some client
          → IsDelivery schemas world client k (Message said) notice → Fits schemas (with_pushing at (after_notice world.room.history k client notice) world) new)
          → to_client new.queues ≡ to_client popped.queues → Answers schemas w (on_deliver at w) (Ok lines) new
      deliver_message said is new lines prints takes same =
          let told_it : Message said ≡ told schemas w.room it.client k next.0 = sym is ∙ next.1.1.1 in
          ends_in new [] lines (message_lines schemas w it.client k at next.0 said told_it) prints
          (takes schemas taken_off it.client k next.0 off_fits it.made (record {
            session = has;
            told = told_it;
            expected = subst (IsExpected it.client k) (sym told_it) law.0;
            taken = subst (λ o. IsTaken schemas w.room.history it.client o (after_notice w.room.history k it.client next.0).client) (sym told_it) law.1;
          })) same

      pub deliver_end : (reason : EndReason) → out ≡ End reason → (after : Peer)
          → ((schemas : WorldSchemas EditFault) (state : ClientState) → peer_of.Stands schemas state one.peer → peer_of.Stands schemas (record { base = records_with schemas.room.is_document state.base; client = after_end reason state.client }) after)
          → (new : Live) → new.room ≡ popped.room → new.queues ≡ popped.queues → new.clients.items ≡ slice_set popped.clients.items at (record one { peer = after; session = None })
          → (lines : Vec OutLine) → lines.items ≡ line.Ended at reason ∷ [] → Answers schemas w (on_deliver at w) (Ok lines) new
      deliver_end reason is after ended new room_is queues_is set lines prints =
          let notice = end_is schemas w it.client k reason next.0 (sym is ∙ next.1.1.1) in
          let d = after_end reason it.client in
          let kept : IsClient schemas w.room.history d (record one { peer = after; session = None }) = record {
            peer = subst (λ b. peer_of.Stands schemas (record { base = b; client = d }) after) (document_is schemas w live keeps at it.client it.made ∙ sym (ended_base schemas w.room.history it.client reason))
                (ended schemas (client_state schemas w.room.history it.client) it.kept.peer);
            session = sym (ended_session it.client reason);
            clip = it.kept.clip ∙ sym (ended_clip it.client reason);
          } in
          let fits = fits_idle schemas taken_off at d new (fits_client schemas taken_off popped off_fits at d (record one { peer = after; session = None }) new kept room_is queues_is set) in
          ends_in new (line.Ended at reason ∷ []) lines (ap (notice_lines at) notice) prints
          (subst (λ (n : Notice). Fits schemas (with_pushing at (after_notice w.room.history k it.client n) taken_off) new) (sym notice) fits) (ap to_client queues_is)
