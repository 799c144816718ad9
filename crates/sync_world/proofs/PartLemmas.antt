-- The parts of a world while an event happens.
use Rattle.std.proofs.Common.{◌≡◌, ℕ, ◌<◌, ◌≤◌, Bool, List, [], length, get_or, slice_get, slice_set, Some, None, Ok, Err, refl, sym, ap, subst, ◌∙◌, arith, append-nil}
use Rattle.std.specs.Prelude.{vec_len}
use Rattle.std.specs.Global.{Vec}
use Rattle.std.specs.Option.{option_map_or}
use Rattle.std.proofs.lemmas.List.{set-get_or}
use Rattle.room_model.specs.Schemas.{WorldSchemas}
use Rattle.room_model.specs.Histories.{History}
use Rattle.room_model.specs.Rooms.{Room, session_at}
use Rattle.room_model.specs.Replicas.{Client, new_client, session_of, Pushing, push_none, push_all}
use Rattle.room_model.specs.Worlds as model
use Rattle.room_model.specs.Worlds.{Stepped, Outcome, happens, with_client, with_messages, with_pushing, after_event}
use Rattle.room_model.specs.declared.event.Event.{Event}
use Rattle.room_model.specs.declared.fault.StepFault.{StepFault}
use Rattle.room_model.specs.declared.line.OutLine.{OutLine}
use Rattle.side_effects.specs.declared.fault.EditFault.{EditFault}
use Rattle.sync_room.specs.Standing as room_of
use Rattle.peer_schemas.specs.Clients.{schemas_of}
use Rattle.sync_peer.specs.Standing as peer_of
use Rattle.sync_peer.specs.declared.peer.Peer.{Peer}
use Rattle.world_laws.specs.Reachable.{stepped}
use Rattle.world_laws.specs.Queues.{queues_after, AreQueues}
use Rattle.world_laws.proofs.PushLemmas.{same_pushed}
use Rattle.world_laws.proofs.QueueLemmas.{queues_go_on}
use Rattle.world_queues.specs.Queues.{to_room, to_client}
use Rattle.sync_world.specs.Sending.{sent_by}
use Rattle.sync_world.specs.States.{client_state}
use Rattle.sync_world.specs.Keeping.{AreKept}
use Rattle.sync_world.specs.Standing.{IsClient, Fits, Keeps}
use Rattle.sync_world.specs.Answers.{Answers}
use Rattle.sync_world.specs.declared.live.Live.{Live}
use Rattle.sync_world.specs.declared.live.WorldClient.{WorldClient}
use Rattle.sync_world.proofs.ListLemmas.{got_some, got_none, got_item, set_twice}
use Rattle.sync_world.proofs.WorldLemmas.{base_alike, new_base}
use Rattle.sync_world.proofs.KeepingLemmas.{kept_set}
use Rattle.sync_world.proofs.OutcomeLemmas.{pushing_room, pushing_clients, pushing_none, pushing_gone, pushing_here}

module _ (schemas : WorldSchemas EditFault) where
  -- what the parts are after an event that happens, if they fit the world that it makes
  pub happened : (w v : model.World) (trace : Bool) (e : Event) (old new : Live) (ls : List OutLine) (lines : Vec OutLine) → Keeps schemas w old
      → after_event schemas trace w e ≡ happens ls v → lines.items ≡ ls → Fits schemas v new → to_client new.queues ≡ queues_after schemas w (to_client old.queues) e
      → Answers schemas w (after_event schemas trace w e) (Ok lines) new
  happened w v trace e old new ls lines keeps is prints fits given =
      let made : Stepped = record { world = v; lines = ls } in (
        made,
        is,
        prints,
        record {
          reachable = stepped trace w e made keeps.reachable is;
          fits = fits;
          given = subst (λ q. AreQueues schemas v q) (sym given) (queues_go_on schemas w (to_client old.queues) keeps.reachable keeps.given trace e made is);
        },
      )

  -- an event that is refused
  pub refused : (w : model.World) (outcome : Outcome EditFault) (fault : StepFault EditFault) (live : Live) → outcome ≡ Err fault → Keeps schemas w live → Answers schemas w outcome (Err fault) live
  refused w outcome fault live is keeps = (is, keeps)

  module _ (w : model.World) (old : Live) (fits : Fits schemas w old) where
    -- the parts fit a world that has the same room, with what changed
    pub fits_with : (v : model.World) (new : Live) → room_of.Stands v.room new.room → room_of.tree_of new.room ≡ room_of.tree_of old.room
        → AreKept (IsClient schemas v.room.history) v.clients new.clients.items → to_room new.queues ≡ sent_by v.channels → Fits schemas v new
    fits_with v new stands tree clients sent = record {
      tables = fits.tables;
      decided = fits.decided ∙ ap (λ t. schemas_of t) (sym tree);
      room = stands;
      clients = clients;
      sent = sent;
    }

    -- who is kept at a place is a client
    pub client_there : (n : ℕ) → n < vec_len old.clients → (c : Client) × (slice_get w.clients n ≡ Some c)
    client_there n less =
        let long = fits.clients.long in
        let is = old.clients.ok.0 in
        got_some w.clients n (omega arith)

    pub client_none : (n : ℕ) → vec_len old.clients ≤ n → slice_get w.clients n ≡ None
    client_none n more =
        let long = fits.clients.long in
        let is = old.clients.ok.0 in
        got_none w.clients n (omega arith)

    -- what is kept of a client
    pub client_is : (n : ℕ) (c : Client) (one : WorldClient) → n < vec_len old.clients → slice_get w.clients n ≡ Some c → one ≡ get_or old.clients.items n one → IsClient schemas w.room.history c one
    client_is n c one less at is =
        let long = old.clients.ok.0 in
        fits.clients.each n c one at (got_item old.clients.items n one (omega arith) is)

    -- a client changes, and nothing else
    pub fits_client : (n : ℕ) (c : Client) (one : WorldClient) (new : Live) → IsClient schemas w.room.history c one
        → new.room ≡ old.room → new.queues ≡ old.queues → new.clients.items ≡ slice_set old.clients.items n one → Fits schemas (with_client n c w) new
    fits_client n c one new is same queues set =
        fits_with (with_client n c w) new (subst (λ r. room_of.Stands w.room r) (sym same) fits.room) (ap room_of.tree_of same)
        (subst (λ ks. AreKept (IsClient schemas w.room.history) (slice_set w.clients n c) ks) (sym set) (kept_set (IsClient schemas w.room.history) w.clients old.clients.items n c one fits.clients is))
        (ap to_room queues ∙ fits.sent)

  -- a client has pushed: it is kept as it is then, and its pushes are in flight
  pub fits_pushing : (v : model.World) (n : ℕ) (p : Pushing) (old new : Live) → Fits schemas (with_client n p.client v) old → new.room ≡ old.room
      → new.clients.items ≡ old.clients.items → to_room new.queues ≡ sent_by (with_pushing n p v).channels → Fits schemas (with_pushing n p v) new
  fits_pushing v n p old new fits same clients sent = record {
    tables = fits.tables;
    decided = fits.decided ∙ ap (λ r. schemas_of (room_of.tree_of r)) (sym same);
    room = subst (λ (r : Room). room_of.Stands r new.room) (sym (pushing_room v n p)) (subst (λ r. room_of.Stands v.room r) (sym same) fits.room);
    clients =
        subst (λ (r : Room). AreKept (IsClient schemas r.history) (with_pushing n p v).clients new.clients.items) (sym (pushing_room v n p))
        (subst (λ cs. AreKept (IsClient schemas v.room.history) cs new.clients.items) (sym (pushing_clients v n p))
        (subst (λ ks. AreKept (IsClient schemas v.room.history) (slice_set v.clients n p.client) ks) (sym clients) fits.clients));
    sent = sent;
  }

  idle_sent : (v : model.World) (n : ℕ) (c : Client) → sent_by (with_pushing n (push_none c) v).channels ≡ sent_by v.channels
  idle_sent v n c = elim (session_of c.connection) as (λ o. session_of c.connection ≡ o → sent_by (with_pushing n (push_none c) v).channels ≡ sent_by v.channels) [
    | None ↦ λ is. pushing_none v n (push_none c) is
    | Some k ↦ λ is. elim (session_at k v.room) as (λ o. session_at k v.room ≡ o → sent_by (with_pushing n (push_none c) v).channels ≡ sent_by v.channels) [
      | None ↦ λ gone. pushing_gone v n (push_none c) k is gone
      | Some s ↦ λ here. pushing_here v n (push_none c) k is s here ∙ ap (λ q. slice_set (sent_by v.channels) k q) (append-nil (get_or (sent_by v.channels) k [])) ∙ set-get_or (sent_by v.channels) k []
    ] refl
  ] refl

  -- a client that has nothing to push has pushed
  pub fits_idle : (v : model.World) (n : ℕ) (c : Client) (live : Live) → Fits schemas (with_client n c v) live → Fits schemas (with_pushing n (push_none c) v) live
  fits_idle v n c live fits = fits_pushing v n (push_none c) live live fits refl refl (fits.sent ∙ sym (idle_sent v n c))

  -- a client that changed pushes: the world is the one in which it pushes at once
  pub pushing_over : (v : model.World) (n : ℕ) (c : Client) (p : Pushing) → with_pushing n p (with_client n c v) ≡ with_pushing n p v
  pushing_over v n c p =
      ap (λ (u : model.World). option_map_or (λ session. with_messages session p.messages u) (session_of p.client.connection) u)
      (λ i. record v { clients = set_twice v.clients n c p.client i })

  -- a client is kept where what pushes changed it
  pub pushed_kept : (history : History) (c : Client) (one : WorldClient) (after : Peer) → IsClient schemas history c one
      → peer_of.Stands schemas (record (client_state schemas history c) { client = (push_all c).client }) after
      → IsClient schemas history (push_all c).client (record one { peer = after })
  pushed_kept history c one after is stands =
      let same = same_pushed (length c.pending) c in
      record {
        peer = subst (λ b. peer_of.Stands schemas (record { base = b; client = (push_all c).client }) after) (sym (base_alike schemas history c (push_all c).client same.version same.reached same.connection)) stands;
        session = is.session ∙ ap session_of (sym same.connection);
        clip = is.clip ∙ sym same.clip;
      }

  -- a client that did nothing is kept
  pub new_kept : (history : History) (version : ℕ) (one : Peer) → peer_of.Stands schemas (record { base = []; client = new_client version }) one
      → IsClient schemas history (new_client version) (record { peer = one; session = None; clip = None })
  new_kept history version one stands = record {
    peer = subst (λ b. peer_of.Stands schemas (record { base = b; client = new_client version }) one) (sym (new_base schemas history version)) stands;
    session = refl;
    clip = refl;
  }
