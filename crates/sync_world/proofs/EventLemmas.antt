-- What the parts are after the events that change one client, or the room.
use Rattle.std.proofs.Common.{◌≡◌, ℕ, ◌<◌, ◌++◌, Bool, true, false, List, [], ◌∷◌, length, drop, get_or, slice_get, slice_set, Option, Some, None, Ok, Err, refl, sym, ap, subst, ◌∙◌}
use Rattle.std.specs.Prelude.{vec_len, is_none}
use Rattle.std.specs.Global.{Vec}
use Rattle.std.specs.Option.{option_map_or}
use Rattle.std.proofs.lemmas.List.{set-get_or}
use Rattle.room_model.specs.Schemas.{WorldSchemas, doc, records_with}
use Rattle.room_model.specs.Rooms.{Session, session_at, after_leave, after_message, Given, next_for, after_drain}
use Rattle.room_model.specs.Taking.{Replica}
use Rattle.room_model.specs.Replicas.{Client, after_cut, base_of}
use Rattle.room_model.specs.Worlds as model
use Rattle.room_model.specs.Worlds.{Channel, with_client, with_channel, on_cut, on_show, show_line, on_lose, on_handle, on_send, trace_line, out_line, end_line, happens, after_event}
use Rattle.room_model.specs.declared.event.Event.{Event}
use Rattle.room_model.specs.declared.event.Event.TheVariants as event
use Rattle.room_model.specs.declared.fault.StepFault.TheVariants.{NoSuchSession, NothingThere}
use Rattle.room_model.specs.declared.line.OutLine.{OutLine}
use Rattle.room_model.specs.declared.line.OutLine.TheVariants as line
use Rattle.side_effects.specs.declared.fault.EditFault.{EditFault}
use Rattle.sync_msgs.specs.declared.client_message.ClientMessage.{ClientMessage}
use Rattle.sync_msgs.specs.declared.out.Out.{Out}
use Rattle.sync_client.specs.Calls.{ClientState}
use Rattle.sync_room.specs.Standing as room_of
use Rattle.sync_peer.specs.Standing as peer_of
use Rattle.sync_peer.specs.declared.peer.Peer.{Peer}
use Rattle.room_model.specs.declared.handled.Handled.{Handled}
use Rattle.world_laws.specs.Queues.{AreQueues, with_out}
use Rattle.world_laws.specs.Told.{replica_of}
use Rattle.world_laws.proofs.LaterLemmas.{has_same}
use Rattle.world_laws.proofs.TakenLemmas.{has_parts}
use Rattle.world_queues.specs.Queues.{to_room, to_client, queue_at, without_first}
use Rattle.sync_world.specs.States.{client_state}
use Rattle.sync_world.specs.Keeping.{AreKept}
use Rattle.sync_world.specs.Standing.{IsClient, Fits, Keeps}
use Rattle.sync_world.specs.Answers.{Answers}
use Rattle.sync_world.specs.declared.live.Live.{Live}
use Rattle.sync_world.specs.declared.live.WorldClient.{WorldClient}
use Rattle.sync_world.proofs.ListLemmas.{got_item}
use Rattle.sync_world.proofs.WorldLemmas.{has_channel, sent_at, sent_set, sent_still}
use Rattle.sync_world.proofs.KeepingLemmas.{kept_still}
use Rattle.sync_world.proofs.OutcomeLemmas.{cuts, cuts_none, shows, loses, handles, handles_nothing, sends, sends_nothing}
use Rattle.sync_world.proofs.PartLemmas.{happened, fits_with, client_there, client_is, fits_client}
use Rattle.peer_schemas.proofs.ClientLemmas.{lawful}

none_of : {X : Type 0} (o : Option X) → is_none o ≡ true → o ≡ None
none_of None is = refl
none_of (Some x) is = absurd (cc)

some_of : {X : Type 0} (o : Option X) → is_none o ≡ false → (x : X) × (o ≡ Some x)
some_of None is = absurd (cc)
some_of (Some x) is = (x, refl)

pub head_none : {X : Type 0} (xs : List X) → None ≡ slice_get xs 0 → xs ≡ []
head_none [] is = refl
head_none (x ∷ xs) is = absurd (cc)

pub head_some : {X : Type 0} (xs : List X) (x : X) → Some x ≡ slice_get xs 0 → xs ≡ x ∷ drop 1 xs
head_some [] x is = absurd (cc)
head_some (y ∷ xs) x is = let same : x ≡ y = cc in ap (λ z. z ∷ xs) (sym same)

-- what is read twice at a place is the same
pub same_item : {X : Type 0} (xs : List X) (n : ℕ) (x y : X) → n < length xs → x ≡ get_or xs n x → y ≡ get_or xs n y → x ≡ y
same_item xs n x y less one other = let e = sym (got_item xs n x less one) ∙ got_item xs n y less other in cc

-- who is at a place, and what is kept of it
pub record IsThere (schemas : WorldSchemas EditFault) (w : model.World) (n : ℕ) (one : WorldClient) : Type 0 where
  pub client : Client
  pub made : slice_get w.clients n ≡ Some client
  pub kept : IsClient schemas w.room.history client one

module _ (schemas : WorldSchemas EditFault) (w : model.World) (live : Live) where
  pub is_there : (n at : ℕ) (one : WorldClient) → Fits schemas w live → at ≡ n → at < vec_len live.clients → one ≡ get_or live.clients.items at one → IsThere schemas w n one
  is_there n at one fits same less is =
      let there = client_there schemas w live fits at less in
      record {
        client = there.0;
        made = ap (slice_get w.clients) (sym same) ∙ there.1;
        kept = client_is schemas w live fits at there.0 one less there.1 is;
      }

  module _ (keeps : Keeps schemas w live) where
    -- the document in a client's base is what it has of the room's
    pub document_is : (n : ℕ) (c : Client) → slice_get w.clients n ≡ Some c → doc schemas.room (replica_of schemas w.room.history c).base ≡ base_of schemas w.room.history c
    document_is n c at = (has_parts schemas (lawful schemas keeps.fits.tables) w n c keeps.reachable at).0

    module _ (n at : ℕ) (one : WorldClient) (same : at ≡ n) (less : at < vec_len live.clients) (is : one ≡ get_or live.clients.items at one) where
      pub cut_refused : is_none one.session ≡ true → Answers schemas w (on_cut n w) (Err NoSuchSession) live
      cut_refused none = let it = is_there n at one keeps.fits same less is in (cuts_none w n it.client it.made (sym it.kept.session ∙ none_of one.session none), keeps)

      pub cut_done : is_none one.session ≡ false → (after : Peer)
          → ((schemas : WorldSchemas EditFault) (state : ClientState) → peer_of.Stands schemas state one.peer → peer_of.Stands schemas (record { base = records_with schemas.room.is_document state.base; client = after_cut state.client }) after)
          → (lines : Vec OutLine) → lines.items ≡ [] → (new : Live) → new.room ≡ live.room → new.queues ≡ live.queues
          → new.clients.items ≡ slice_set live.clients.items at (record one { peer = after; session = None })
          → Answers schemas w (on_cut n w) (Ok lines) new
      cut_done some after lost lines prints new room queues set =
          let it = is_there n at one keeps.fits same less is in
          let c = it.client in
          let has = some_of one.session some in
          let kept : IsClient schemas w.room.history (after_cut c) (record one { peer = after; session = None }) = record {
            peer = subst (λ b. peer_of.Stands schemas (record { base = b; client = after_cut c }) after) (document_is n c it.made) (lost schemas (client_state schemas w.room.history c) it.kept.peer);
            session = refl;
            clip = it.kept.clip;
          } in
          happened schemas w (with_client n (after_cut c) w) false (event.Cut n) live new [] lines keeps (cuts w n c it.made has.0 (sym it.kept.session ∙ has.1)) prints
          (fits_client schemas w live keeps.fits n (after_cut c) (record one { peer = after; session = None }) new kept room queues (set ∙ ap (λ k. slice_set live.clients.items k (record one { peer = after; session = None })) same))
          (ap to_client queues)

      pub show_done : (shown : OutLine) (lines : Vec OutLine) → ((c : Client) → IsClient schemas w.room.history c one → slice_get w.clients n ≡ Some c → shown ≡ show_line schemas n w c) → lines.items ≡ shown ∷ []
          → Answers schemas w (on_show schemas n w) (Ok lines) live
      show_done shown lines says prints =
          let it = is_there n at one keeps.fits same less is in
          happened schemas w w false (event.Show n) live live (show_line schemas n w it.client ∷ []) lines keeps (shows schemas w n it.client it.made)
          (prints ∙ ap (λ l. l ∷ []) (says it.client it.kept it.made)) keeps.fits refl

    -- the clients stay through what changes the room
    pub clients_stay : (trace : Bool) (e : Event) (v : model.World) (ls : List OutLine) → after_event schemas trace w e ≡ happens ls v
        → AreKept (IsClient schemas v.room.history) w.clients live.clients.items
    clients_stay trace e v ls is =
        kept_still (IsClient schemas w.room.history) (IsClient schemas v.room.history) w.clients live.clients.items
        (λ n c one at kept.
        let still = has_same schemas w trace e (record { world = v; lines = ls }) n c keeps.reachable is at in
        record {
          peer = subst (λ (r : Replica). peer_of.Stands schemas (record { base = r.base; client = c }) one.peer) (sym still.replica) kept.peer;
          session = kept.session;
          clip = kept.clip;
        }) keeps.fits.clients

    -- the same world, with the messages and the room as they were
    pub keeps_alike : (new : Live) → room_of.Stands w.room new.room → room_of.tree_of new.room ≡ room_of.tree_of live.room → new.clients.items ≡ live.clients.items
        → to_room new.queues ≡ to_room live.queues → to_client new.queues ≡ to_client live.queues → Keeps schemas w new
    keeps_alike new stands tree clients sent given = record {
      reachable = keeps.reachable;
      fits = fits_with schemas w live keeps.fits w new stands tree (subst (λ ks. AreKept (IsClient schemas w.room.history) w.clients ks) (sym clients) keeps.fits.clients) (sent ∙ keeps.fits.sent);
      given = subst (λ q. AreQueues schemas w q) (sym given) keeps.given;
    }

    pub end_done : (shown : OutLine) (lines : Vec OutLine) → shown ≡ end_line schemas w → lines.items ≡ shown ∷ [] → Answers schemas w (happens (end_line schemas w ∷ []) w) (Ok lines) live
    end_done shown lines says prints = happened schemas w w false event.End live live (end_line schemas w ∷ []) lines keeps refl (prints ∙ ap (λ l. l ∷ []) says) keeps.fits refl

    module _ (k : ℕ) (s : Session) (here : session_at k w.room ≡ Some s) where
      the_channel : (channel : Channel) × (slice_get w.channels k ≡ Some channel)
      the_channel = has_channel schemas w k s keeps.reachable here

      queue_is : queue_at k (to_room live.queues) ≡ the_channel.0.to_room
      queue_is = ap (queue_at k) keeps.fits.sent ∙ sent_at w.channels k the_channel.0 the_channel.1

      pub lose_done : (lines : Vec OutLine) → lines.items ≡ [] → (new : Live) → room_of.Leaves (after_leave w.room k) new.room
          → room_of.tree_of new.room ≡ room_of.tree_of live.room → new.clients ≡ live.clients
          → to_room new.queues ≡ slice_set (to_room live.queues) k [] → to_client new.queues ≡ to_client live.queues → Answers schemas w (on_lose k w) (Ok lines) new
      lose_done lines prints new left tree clients sent given =
          elim (after_leave w.room k) as (λ o. after_leave w.room k ≡ o → room_of.Leaves o new.room → Answers schemas w (on_lose k w) (Ok lines) new) [
            | None ↦ λ is none. absurd none
            | Some r ↦ λ is stands.
                let channel = the_channel.0 in
                let v = with_channel k (record channel { to_room = [] }) (record w { room = r }) in
                let so = loses w k s here channel the_channel.1 r is in
                happened schemas w v false (event.Lose k) live new [] lines keeps so prints
                (fits_with schemas w live keeps.fits v new stands tree
                (subst (λ ks. AreKept (IsClient schemas r.history) w.clients ks) (sym (ap (λ (ks : Vec WorldClient). ks.items) clients)) (clients_stay false (event.Lose k) v [] so))
                (sent ∙ ap (λ q. slice_set q k []) keeps.fits.sent ∙ sym (sent_set w.channels k (record channel { to_room = [] }))))
                given
          ] refl left

      pub handle_refused : (trace : Bool) → None ≡ slice_get (queue_at k (to_room live.queues)) 0 → (new : Live) → new.room ≡ live.room → new.clients ≡ live.clients
          → to_room new.queues ≡ without_first k (to_room live.queues) → to_client new.queues ≡ to_client live.queues
          → Answers schemas w (on_handle schemas trace k w) (Err NothingThere) new
      handle_refused trace none new same clients sent given =
          let empty = head_none (queue_at k (to_room live.queues)) none in (
            handles_nothing schemas w k s here the_channel.0 the_channel.1 trace (sym queue_is ∙ empty),
            keeps_alike new (subst (λ r. room_of.Stands w.room r) (sym same) keeps.fits.room) (ap room_of.tree_of same) (ap (λ (ks : Vec WorldClient). ks.items) clients)
                (sent ∙ ap (λ q. slice_set (to_room live.queues) k (drop 1 q)) empty ∙ ap (slice_set (to_room live.queues) k) (sym empty) ∙ set-get_or (to_room live.queues) k [])
                given,
          )

      pub handle_done : (trace : Bool) (said : ClientMessage) (reply : Handled) (lines : Vec OutLine) → Some said ≡ slice_get (queue_at k (to_room live.queues)) 0
          → lines.items ≡ trace_line trace (line.From k said) → (new : Live) → room_of.Replies (after_message schemas.room w.room k said) reply new.room
          → room_of.tree_of new.room ≡ room_of.tree_of live.room → new.clients ≡ live.clients
          → to_room new.queues ≡ without_first k (to_room live.queues) → to_client new.queues ≡ to_client live.queues
          → Answers schemas w (on_handle schemas trace k w) (Ok lines) new
      handle_done trace said reply lines first prints new replies tree clients sent given =
          elim (after_message schemas.room w.room k said) as (λ o. after_message schemas.room w.room k said ≡ o → room_of.Replies o reply new.room → Answers schemas w (on_handle schemas trace k w) (Ok lines) new) [
            | None ↦ λ is none. absurd none
            | Some replied ↦ λ is replies.
                let channel = the_channel.0 in
                let rest = drop 1 (queue_at k (to_room live.queues)) in
                let v = with_channel k (record channel { to_room = rest }) (record w { room = replied.room }) in
                let so = handles schemas w k s here channel the_channel.1 trace said rest replied (sym queue_is ∙ head_some (queue_at k (to_room live.queues)) said first) is in
                happened schemas w v trace (event.Handle k) live new (trace_line trace (line.From k said)) lines keeps so prints
                (fits_with schemas w live keeps.fits v new replies.1 tree
                (subst (λ ks. AreKept (IsClient schemas replied.room.history) w.clients ks) (sym (ap (λ (ks : Vec WorldClient). ks.items) clients)) (clients_stay trace (event.Handle k) v (trace_line trace (line.From k said)) so))
                (sent ∙ ap (λ q. slice_set q k rest) keeps.fits.sent ∙ sym (sent_set w.channels k (record channel { to_room = rest }))))
                given
          ] refl replies

      pub send_refused : (trace : Bool) (new : Live) → room_of.Drains w.room k (next_for schemas.room w.room k) None new.room
          → room_of.tree_of new.room ≡ room_of.tree_of live.room → new.clients ≡ live.clients → new.queues ≡ live.queues
          → Answers schemas w (on_send schemas trace k w) (Err NothingThere) new
      send_refused trace new drains tree clients queues =
          elim (next_for schemas.room w.room k) as (λ o. next_for schemas.room w.room k ≡ o → room_of.Drains w.room k o None new.room → Answers schemas w (on_send schemas trace k w) (Err NothingThere) new) [
            | None ↦ λ is drains. (
              sends_nothing schemas w k s here the_channel.0 the_channel.1 trace is,
              keeps_alike new drains.1 tree (ap (λ (ks : Vec WorldClient). ks.items) clients) (ap to_room queues) (ap to_client queues),
            )
            | Some given ↦ λ is drains. absurd (let clash = drains.0 in cc)
          ] refl drains

      pub send_done : (trace : Bool) (out : Out) (lines : Vec OutLine) → lines.items ≡ trace_line trace (out_line k out) → (new : Live)
          → room_of.Drains w.room k (next_for schemas.room w.room k) (Some out) new.room
          → room_of.tree_of new.room ≡ room_of.tree_of live.room → new.clients ≡ live.clients
          → to_room new.queues ≡ to_room live.queues → to_client new.queues ≡ with_out k out (to_client live.queues)
          → Answers schemas w (on_send schemas trace k w) (Ok lines) new
      send_done trace out lines prints new drains tree clients sent put =
          elim (next_for schemas.room w.room k) as (λ o. next_for schemas.room w.room k ≡ o → room_of.Drains w.room k o (Some out) new.room → Answers schemas w (on_send schemas trace k w) (Ok lines) new) [
            | None ↦ λ is drains. absurd (let clash = drains.0 in cc)
            | Some given ↦ λ is drains.
                let channel = the_channel.0 in
                let same : out ≡ given.out = let some = drains.0 in cc in
                let after = record channel { to_client = channel.to_client ++ given.notice ∷ [] } in
                let v = with_channel k after (record w { room = after_drain w.room k given }) in
                happened schemas w v trace (event.Send k) live new (trace_line trace (out_line k given.out)) lines keeps
                (sends schemas w k s here channel the_channel.1 trace given is) (prints ∙ ap (λ o. trace_line trace (out_line k o)) same)
                (fits_with schemas w live keeps.fits v new drains.1 tree
                (subst (λ ks. AreKept (IsClient schemas w.room.history) w.clients ks) (sym (ap (λ (ks : Vec WorldClient). ks.items) clients)) keeps.fits.clients)
                (sent ∙ keeps.fits.sent ∙ sym (sent_still w.channels k channel after the_channel.1 refl)))
                (put ∙ ap (λ o. with_out k o (to_client live.queues)) same ∙ sym (ap (λ o. option_map_or (λ (g : Given). with_out k g.out (to_client live.queues)) o (to_client live.queues)) is))
          ] refl drains
