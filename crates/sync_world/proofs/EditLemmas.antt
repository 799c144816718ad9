-- A client of a world edits.
use Rattle.std.proofs.Common.{◌≡◌, ℕ, ◌<◌, false, [], get_or, slice_get, slice_set, Some, Ok, Err, Result, refl, sym, ap, subst, ◌∙◌}
use Rattle.std.specs.Prelude.{vec_len}
use Rattle.std.specs.Global.{Vec}
use Rattle.field_ops.specs.RecordOps.{RecordOps}
use Rattle.doc_model.specs.Inverses.{inverse_diff}
use Rattle.doc_model.specs.Marks as marks
use Rattle.room_model.specs.Schemas.{WorldSchemas}
use Rattle.room_model.specs.Replicas.{Client, edit, with_work, push_all, schema_of}
use Rattle.room_model.specs.Worlds as model
use Rattle.room_model.specs.Worlds.{with_client, with_pushing, shown_in, inverse_in, on_edit}
use Rattle.room_model.specs.declared.event.Event.TheVariants as event
use Rattle.room_model.specs.declared.line.OutLine.{OutLine}
use Rattle.room_model.specs.declared.fault.StepFault.TheVariants.{Edit}
use Rattle.side_effects.specs.declared.fault.EditFault.{EditFault}
use Rattle.sync_client.specs.Calls.{ClientState}
use Rattle.sync_peer.specs.Calls.{completion, done_by}
use Rattle.sync_peer.specs.Standing as peer_of
use Rattle.sync_peer.specs.declared.peer.Peer.{Peer}
use Rattle.world_laws.specs.Queues.{AreQueues}
use Rattle.world_laws.proofs.LaterLemmas.{got_at}
use Rattle.world_queues.specs.Queues.{to_client}
use Rattle.sync_world.specs.States.{client_state}
use Rattle.sync_world.specs.Standing.{IsClient, Fits, Keeps}
use Rattle.sync_world.specs.Answers.{Answers}
use Rattle.sync_world.specs.declared.live.Live.{Live}
use Rattle.sync_world.specs.declared.live.WorldClient.{WorldClient}
use Rattle.sync_world.proofs.ListLemmas.{set_again}
use Rattle.sync_world.proofs.WorldLemmas.{base_alike}
use Rattle.sync_world.proofs.OutcomeLemmas.{edits, edits_not}
use Rattle.sync_world.proofs.PartLemmas.{happened, fits_client, pushing_over}
use Rattle.sync_world.proofs.EventLemmas.{is_there}
use Rattle.sync_world.proofs.ShowLemmas.{shown_is}

module _ (schemas : WorldSchemas EditFault) (w : model.World) (live : Live) (keeps : Keeps schemas w live) (at : ℕ) (one : WorldClient) (less : at < vec_len live.clients)
    (is : one ≡ get_or live.clients.items at one) (after : Peer) (mid : Live) (room : mid.room ≡ live.room) (queues : mid.queues ≡ live.queues)
    (set : mid.clients.items ≡ slice_set live.clients.items at (record one { peer = after })) where
  -- a client that its peer stands for is as it was kept
  pub still_keeps : (c : Client) → slice_get w.clients at ≡ Some c → IsClient schemas w.room.history c (record one { peer = after }) → Keeps schemas w mid
  still_keeps c made kept =
      let fits = fits_client schemas w live keeps.fits at c (record one { peer = after }) mid kept room queues set in
      let same : with_client at c w ≡ w = λ i. record w { clients = set_again w.clients at c made i } in
      record {
        reachable = keeps.reachable;
        fits = subst (λ (v : model.World). Fits schemas v mid) same fits;
        given = subst (λ q. AreQueues schemas w q) (sym (ap to_client queues)) keeps.given;
      }

  -- what a client that pushes has come to
  abbrev pub Pushes : Live → Type 0
  Pushes new = (schemas : WorldSchemas EditFault) (world : model.World) (client : Client) → Fits schemas world mid → slice_get world.clients at ≡ Some client
      → Fits schemas (with_pushing at (push_all client) world) new

  -- a client that changed has pushed
  pub then_pushes : (c d : Client) → slice_get w.clients at ≡ Some c → IsClient schemas w.room.history d (record one { peer = after }) → (new : Live) → Pushes new
      → Fits schemas (with_pushing at (push_all d) w) new
  then_pushes c d made kept new pushes =
      subst (λ (v : model.World). Fits schemas v new) (pushing_over schemas w at d (push_all d))
      (pushes schemas (with_client at d w) d (fits_client schemas w live keeps.fits at d (record one { peer = after }) mid kept room queues set) (got_at w.clients at c d made))

  pub edit_done : (wanted : RecordOps) → ((schemas : WorldSchemas EditFault) (state : ClientState) → peer_of.Stands schemas state one.peer → peer_of.Edits schemas state (completion schemas state wanted) after)
      → (new : Live) → Pushes new → to_client new.queues ≡ to_client mid.queues → (lines : Vec OutLine) → lines.items ≡ [] → Answers schemas w (on_edit schemas at wanted w) (Ok lines) new
  edit_done wanted edited new pushes given lines prints =
      let it = is_there schemas w live at at one keeps.fits refl less is in
      let c = it.client in
      let state = client_state schemas w.room.history c in
      let seen = ap (λ m. (schema_of schemas c).complete m wanted) (shown_is schemas w live keeps at c it.made) in
      elim ((schema_of schemas c).complete (shown_in schemas w c) wanted) as (λ o. (schema_of schemas c).complete (shown_in schemas w c) wanted ≡ o → peer_of.Edits schemas state o after
      → Answers schemas w (on_edit schemas at wanted w) (Ok lines) new) [
        | Err fault ↦ λ completes none. absurd none
        | Ok diff ↦ λ completes stands.
            let back = ap (λ m. inverse_diff (schema_of schemas c).admits m diff) (shown_is schemas w live keeps at c it.made) in
            let d = with_work (edit diff) (record c { marks = marks.after_edit (inverse_in schemas w c diff) c.marks }) in
            let marked = subst (λ b. peer_of.Stands schemas (record state { client = with_work (edit diff) (record c { marks = marks.after_edit b c.marks }) }) after) back stands in
            let kept : IsClient schemas w.room.history d (record one { peer = after }) = record {
              peer = subst (λ b. peer_of.Stands schemas (record { base = b; client = d }) after) (sym (base_alike schemas w.room.history c d refl refl refl)) marked;
              session = it.kept.session;
              clip = it.kept.clip;
            } in
            happened schemas w (with_pushing at (push_all d) w) false (event.Edit at wanted) live new [] lines keeps (edits schemas w at c it.made wanted diff completes) prints
            (then_pushes c d it.made kept new pushes) (given ∙ ap to_client queues)
      ] refl (subst (λ o. peer_of.Edits schemas state o after) seen (edited schemas state it.kept.peer))

  refused_by : (o : Result RecordOps EditFault) (fault : EditFault) → done_by o ≡ Err fault → o ≡ Err fault
  refused_by (Ok diff) fault is = absurd (cc)
  refused_by (Err other) fault is = let same : other ≡ fault = cc in ap (λ f. Err f) same

  pub edit_refused : (wanted : RecordOps) (fault : EditFault)
      → ((schemas : WorldSchemas EditFault) (state : ClientState) → peer_of.Stands schemas state one.peer → done_by (completion schemas state wanted) ≡ Err fault)
      → ((schemas : WorldSchemas EditFault) (state : ClientState) → peer_of.Stands schemas state one.peer → peer_of.Stands schemas state after)
      → Answers schemas w (on_edit schemas at wanted w) (Err (Edit fault)) mid
  edit_refused wanted fault refuses stays =
      let it = is_there schemas w live at at one keeps.fits refl less is in
      let c = it.client in
      let state = client_state schemas w.room.history c in
      let seen = ap (λ m. (schema_of schemas c).complete m wanted) (shown_is schemas w live keeps at c it.made) in (
        edits_not schemas w at c it.made wanted fault (sym seen ∙ refused_by (completion schemas state wanted) fault (refuses schemas state it.kept.peer)),
        still_keeps c it.made (record { peer = stays schemas state it.kept.peer; session = it.kept.session; clip = it.kept.clip }),
      )
