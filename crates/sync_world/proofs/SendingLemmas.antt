-- A client of a world pushes.
use Rattle.std.proofs.Common.{◌≡◌, ℕ, ◌<◌, List, get_or, slice_get, slice_set, length, Option, Some, None, refl, sym, ap, ◌∙◌}
use Rattle.std.specs.Prelude.{vec_len}
use Rattle.room_model.specs.Schemas.{WorldSchemas}
use Rattle.room_model.specs.Rooms.{Session, session_at}
use Rattle.room_model.specs.Replicas.{Client, session_of, push_all}
use Rattle.room_model.specs.Worlds as model
use Rattle.room_model.specs.Worlds.{with_client, with_pushing}
use Rattle.side_effects.specs.declared.fault.EditFault.{EditFault}
use Rattle.sync_msgs.specs.declared.client_message.ClientMessage.{ClientMessage}
use Rattle.sync_client.specs.Calls.{ClientState}
use Rattle.sync_peer.specs.Standing as peer_of
use Rattle.sync_peer.specs.declared.peer.Peer.{Peer}
use Rattle.world_laws.proofs.PushLemmas.{same_pushed}
use Rattle.world_queues.specs.Queues.{to_room, with_all}
use Rattle.sync_world.specs.Sending.{sent_by}
use Rattle.sync_world.specs.States.{client_state}
use Rattle.sync_world.specs.Standing.{IsClient, Fits}
use Rattle.sync_world.specs.declared.live.Live.{Live}
use Rattle.sync_world.specs.declared.live.WorldClient.{WorldClient}
use Rattle.sync_world.proofs.OutcomeLemmas.{pushing_none, pushing_gone, pushing_here}
use Rattle.sync_world.proofs.PartLemmas.{client_is, fits_client, fits_pushing, pushed_kept}

-- what a client pushes, and that its peer stands for it then
abbrev pub HasPushed : Peer → List ClientMessage → Peer → Type 0
HasPushed before messages after = (schemas : WorldSchemas EditFault) (state : ClientState) → peer_of.Stands schemas state before
    → (messages ≡ (push_all state.client).messages) × peer_of.Stands schemas (record state { client = (push_all state.client).client }) after

module _ (schemas : WorldSchemas EditFault) (w : model.World) (live : Live) (fits : Fits schemas w live) (at : ℕ) (c : Client) (one : WorldClient) (less : at < vec_len live.clients)
    (made : slice_get w.clients at ≡ Some c) (is : one ≡ get_or live.clients.items at one) where
  kept : IsClient schemas w.room.history c one
  kept = client_is schemas w live fits at c one less made is

  pushes_on : (o : Option ℕ) → one.session ≡ o → session_of (push_all c).client.connection ≡ o
  pushes_on o has = ap session_of (same_pushed (length c.pending) c).connection ∙ sym kept.session ∙ has

  module _ (messages : List ClientMessage) (after : Peer) (has_pushed : HasPushed one.peer messages after) where
    so : (messages ≡ (push_all c).messages) × peer_of.Stands schemas (record (client_state schemas w.room.history c) { client = (push_all c).client }) after
    so = has_pushed schemas (client_state schemas w.room.history c) kept.peer

    pub pushed : (new : Live) → new.room ≡ live.room → new.clients.items ≡ slice_set live.clients.items at (record one { peer = after })
        → to_room new.queues ≡ sent_by (with_pushing at (push_all c) w).channels → Fits schemas (with_pushing at (push_all c) w) new
    pushed new room clients sent =
        let mid = record live { clients = new.clients } in
        fits_pushing schemas w at (push_all c) mid new
        (fits_client schemas w live fits at (push_all c).client (record one { peer = after }) mid (pushed_kept schemas w.room.history c one after kept so.1) refl refl clients)
        room refl sent

    pub sent_nowhere : one.session ≡ None → to_room live.queues ≡ sent_by (with_pushing at (push_all c) w).channels
    sent_nowhere none = fits.sent ∙ sym (pushing_none w at (push_all c) (pushes_on None none))

    pub sent_gone : (k : ℕ) → one.session ≡ Some k → session_at k w.room ≡ None → to_room live.queues ≡ sent_by (with_pushing at (push_all c) w).channels
    sent_gone k has gone = fits.sent ∙ sym (pushing_gone w at (push_all c) k (pushes_on (Some k) has) gone)

    pub sent_there : (k : ℕ) (s : Session) → one.session ≡ Some k → session_at k w.room ≡ Some s → with_all k messages (to_room live.queues) ≡ sent_by (with_pushing at (push_all c) w).channels
    sent_there k s has here =
        ap (with_all k messages) fits.sent ∙ ap (λ ms. with_all k ms (sent_by w.channels)) so.0
        ∙ sym (pushing_here w at (push_all c) k (pushes_on (Some k) has) s here)
