-- A client of a world sets its presence.
use Rattle.std.proofs.Common.{◌≡◌, ℕ, ◌<◌, Bool, true, false, cond, [], get_or, slice_set, Option, Some, None, Ok, Err, refl, sym, ap, subst, ◌∙◌}
use Rattle.std.specs.Prelude.{vec_len}
use Rattle.std.specs.Global.{Vec}
use Rattle.rooms_val.specs.View.{data_of}
use Rattle.rooms_val.specs.declared.val.Val.{Val}
use Rattle.rooms_val.specs.Data.{Data}
use Rattle.room_model.specs.Schemas.{WorldSchemas}
use Rattle.room_model.specs.Histories.{History}
use Rattle.room_model.specs.Replicas.{Client, Pushing, presence, with_work, is_open, after_presence}
use Rattle.room_model.specs.Worlds as model
use Rattle.room_model.specs.Worlds.{with_pushing, on_presence}
use Rattle.room_model.specs.declared.event.Event.TheVariants as event
use Rattle.room_model.specs.declared.line.OutLine.{OutLine}
use Rattle.room_model.specs.declared.fault.StepFault.TheVariants.{Edit}
use Rattle.side_effects.specs.declared.fault.EditFault.{EditFault}
use Rattle.sync_client.specs.Calls.{ClientState}
use Rattle.sync_client.specs.Presences.{with_presence}
use Rattle.sync_peer.specs.Calls.{refusal, done_unless}
use Rattle.sync_peer.specs.Standing as peer_of
use Rattle.sync_peer.specs.declared.peer.Peer.{Peer}
use Rattle.world_queues.specs.Queues.{to_client}
use Rattle.sync_world.specs.States.{client_state}
use Rattle.sync_world.specs.Standing.{IsClient, Fits, Keeps}
use Rattle.sync_world.specs.Answers.{Answers}
use Rattle.sync_world.specs.declared.live.Live.{Live}
use Rattle.sync_world.specs.declared.live.WorldClient.{WorldClient}
use Rattle.sync_world.proofs.WorldLemmas.{base_alike}
use Rattle.sync_world.proofs.OutcomeLemmas.{is_set, is_not_set, presence_pushes}
use Rattle.sync_world.proofs.PartLemmas.{happened}
use Rattle.sync_world.proofs.EventLemmas.{is_there}
use Rattle.sync_world.proofs.EditLemmas.{Pushes, then_pushes, still_keeps}

-- a client that set its presence is kept where one was kept that did not
set_kept : (schemas : WorldSchemas EditFault) (history : History) (c : Client) (one : WorldClient) (after : Peer) (d : Data) (b : Bool) → IsClient schemas history c one
    → let set : Client = record c { presence = Some d } in
    peer_of.Stands schemas (record (client_state schemas history c) { client = cond b (with_work (presence d) set) set }) after
    → IsClient schemas history (cond b (with_work (presence d) set) set) (record one { peer = after })
set_kept schemas history c one after d true kept stands =
    let e : Client = with_work (presence d) (record c { presence = Some d }) in
    record {
      peer = subst (λ b. peer_of.Stands schemas (record { base = b; client = e }) after) (sym (base_alike schemas history c e refl refl refl)) stands;
      session = kept.session;
      clip = kept.clip;
    }
set_kept schemas history c one after d false kept stands =
    let e : Client = record c { presence = Some d } in
    record {
      peer = subst (λ b. peer_of.Stands schemas (record { base = b; client = e }) after) (sym (base_alike schemas history c e refl refl refl)) stands;
      session = kept.session;
      clip = kept.clip;
    }

none_refused : (o : Option EditFault) → done_unless o ≡ Ok tt → o ≡ None
none_refused None is = refl
none_refused (Some fault) is = absurd (cc)

some_refused : (o : Option EditFault) (fault : EditFault) → done_unless o ≡ Err fault → o ≡ Some fault
some_refused None fault is = absurd (cc)
some_refused (Some other) fault is = let same : other ≡ fault = cc in ap (λ f. Some f) same

module _ (schemas : WorldSchemas EditFault) (w : model.World) (live : Live) (keeps : Keeps schemas w live) (at : ℕ) (one : WorldClient) (less : at < vec_len live.clients)
    (is : one ≡ get_or live.clients.items at one) (after : Peer) (mid : Live) (room : mid.room ≡ live.room) (queues : mid.queues ≡ live.queues)
    (set : mid.clients.items ≡ slice_set live.clients.items at (record one { peer = after })) (val : Val) where
  pub presence_done : ((schemas : WorldSchemas EditFault) (state : ClientState) → peer_of.Stands schemas state one.peer → done_unless (refusal schemas state (data_of val)) ≡ Ok tt)
      → ((schemas : WorldSchemas EditFault) (state : ClientState) → peer_of.Stands schemas state one.peer → peer_of.Stands schemas (record state { client = with_presence (data_of val) state.client }) after)
      → (new : Live) → Pushes schemas w live keeps at one less is after mid room queues set new → to_client new.queues ≡ to_client mid.queues → (lines : Vec OutLine) → lines.items ≡ []
      → Answers schemas w (on_presence schemas at (data_of val) w) (Ok lines) new
  presence_done fine shows new pushes given lines prints =
      let d = data_of val in
      let it = is_there schemas w live at at one keeps.fits refl less is in
      let c = it.client in
      let state = client_state schemas w.room.history c in
      let kept = set_kept schemas w.room.history c one after d (is_open c.connection) it.kept (shows schemas state it.kept.peer) in
      let fits = then_pushes schemas w live keeps at one less is after mid room queues set c (with_presence d c) it.made kept new pushes in
      happened schemas w (with_pushing at (after_presence d c) w) false (event.Presence at val) live new [] lines keeps
      (is_set schemas w at c it.made d (none_refused (refusal schemas state d) (fine schemas state it.kept.peer))) prints
      (subst (λ (p : Pushing). Fits schemas (with_pushing at p w) new) (presence_pushes d c) fits) (given ∙ ap to_client queues)

  pub presence_refused : (fault : EditFault)
      → ((schemas : WorldSchemas EditFault) (state : ClientState) → peer_of.Stands schemas state one.peer → done_unless (refusal schemas state (data_of val)) ≡ Err fault)
      → ((schemas : WorldSchemas EditFault) (state : ClientState) → peer_of.Stands schemas state one.peer → peer_of.Stands schemas state after)
      → Answers schemas w (on_presence schemas at (data_of val) w) (Err (Edit fault)) mid
  presence_refused fault refuses stays =
      let it = is_there schemas w live at at one keeps.fits refl less is in
      let c = it.client in
      let state = client_state schemas w.room.history c in (
        is_not_set schemas w at c it.made (data_of val) fault (some_refused (refusal schemas state (data_of val)) fault (refuses schemas state it.kept.peer)),
        still_keeps schemas w live keeps at one less is after mid room queues set c it.made (record { peer = stays schemas state it.kept.peer; session = it.kept.session; clip = it.kept.clip }),
      )
