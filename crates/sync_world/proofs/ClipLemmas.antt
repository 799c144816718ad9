-- A client of a world copies and pastes.
use Rattle.std.proofs.Common.{◌≡◌, ℕ, ◌<◌, false, List, [], Option, Some, None, Ok, Err, Result, get_or, slice_get, slice_set, refl, sym, ap, subst, ◌∙◌}
use Rattle.std.specs.Prelude.{vec_len, option_map}
use Rattle.std.specs.Global.{Vec}
use Rattle.field_ops.specs.RecordOps.{RecordOps}
use Rattle.room_model.specs.Clips.{ClipTree, TargetTree}
use Rattle.room_model.specs.Schemas.{WorldSchemas}
use Rattle.room_model.specs.Replicas.{Client}
use Rattle.room_model.specs.Worlds as model
use Rattle.room_model.specs.Worlds.{with_client, shown_in, on_edit, on_copy, on_paste}
use Rattle.room_model.specs.declared.clip_fault.ClipFault.{ClipFault}
use Rattle.room_model.specs.declared.clip_fault.PasteFault.{PasteFault}
use Rattle.room_model.specs.declared.event.Event.TheVariants as event
use Rattle.room_model.specs.declared.fault.StepFault.{StepFault}
use Rattle.room_model.specs.declared.fault.StepFault.TheVariants.{Clip, NoClip, Paste}
use Rattle.room_model.specs.declared.line.OutLine.{OutLine}
use Rattle.clip_content.specs.Copied.{taken}
use Rattle.clip_content.specs.Pasted.{pasted}
use Rattle.clip_content.specs.View.{clip_tree, target_tree}
use Rattle.clip_content.specs.declared.clip.Clip as code
use Rattle.clip_content.specs.declared.target.Target.{Target}
use Rattle.side_effects.specs.declared.fault.EditFault.{EditFault}
use Rattle.sync_client.specs.Calls.{ClientState}
use Rattle.sync_peer.specs.Calls.{shown}
use Rattle.sync_peer.specs.Standing as peer_of
use Rattle.sync_peer.specs.declared.peer.Peer.{Peer}
use Rattle.world_queues.specs.Queues.{to_client}
use Rattle.sync_world.specs.Clips.{IsCopyOf, IsPasteOf}
use Rattle.sync_world.specs.States.{client_state}
use Rattle.sync_world.specs.Standing.{IsClient, Keeps}
use Rattle.sync_world.specs.Answers.{Answers}
use Rattle.sync_world.specs.declared.live.Live.{Live}
use Rattle.sync_world.specs.declared.live.WorldClient.{WorldClient}
use Rattle.sync_world.proofs.WorldLemmas.{base_alike}
use Rattle.sync_world.proofs.OutcomeLemmas.{copies, pastes, pastes_nothing}
use Rattle.sync_world.proofs.PartLemmas.{happened, fits_client}
use Rattle.sync_world.proofs.EventLemmas.{IsThere, is_there}
use Rattle.sync_world.proofs.ShowLemmas.{shown_is}

-- a peer knows nothing of what its client copied
clip_free : (schemas : WorldSchemas EditFault) (state : ClientState) (clip : Option ClipTree) (peer : Peer) → peer_of.Stands schemas state peer
    → peer_of.Stands schemas (record state { client = record state.client { clip = clip } }) peer
clip_free schemas state clip peer stands =
    let is = stands.client in
    record {
      tables = stands.tables;
      known = stands.known;
      version = stands.version;
      client = record {
        replica = is.replica;
        connection = is.connection;
        reached = is.reached;
        presence = is.presence;
        refused = is.refused;
        pushes = is.pushes;
        pending = is.pending;
        sent = is.sent;
        closed = is.closed;
      };
      marks = stands.marks;
    }

module _ (schemas : WorldSchemas EditFault) (w : model.World) (live : Live) (keeps : Keeps schemas w live) (at : ℕ) (one : WorldClient) (less : at < vec_len live.clients)
    (is : one ≡ get_or live.clients.items at one) where
  it : IsThere schemas w at one
  it = is_there schemas w live at at one keeps.fits refl less is

  -- what a peer copies is what its client does
  copied_is : (ids : List (List ℕ)) (o : Result ClipTree ClipFault) → taken (shown schemas (client_state schemas w.room.history it.client)) ids ≡ o → schemas.clips.copied (shown_in schemas w it.client) ids ≡ o
  copied_is ids o so =
      ap (λ (s : WorldSchemas EditFault). s.clips.copied (shown_in schemas w it.client) ids) keeps.fits.tables.are
      ∙ ap (λ m. taken m ids) (sym (shown_is schemas w live keeps at it.client it.made)) ∙ so

  pub copy_done : (ids : List (List ℕ)) (clip : code.Clip) → IsCopyOf one.peer ids (Ok clip) → (new : Live) → new.room ≡ live.room → new.queues ≡ live.queues
      → new.clients.items ≡ slice_set live.clients.items at (record one { clip = Some clip }) → (lines : Vec OutLine) → lines.items ≡ []
      → Answers schemas w (on_copy schemas at ids w) (Ok lines) new
  copy_done ids clip is_copy new room queues set lines prints =
      let c = it.client in
      let state = client_state schemas w.room.history c in
      let d : Client = record c { clip = Some (clip_tree clip) } in
      let kept : IsClient schemas w.room.history d (record one { clip = Some clip }) = record {
        peer = subst (λ b. peer_of.Stands schemas (record { base = b; client = d }) one.peer) (sym (base_alike schemas w.room.history c d refl refl refl))
            (clip_free schemas state (Some (clip_tree clip)) one.peer it.kept.peer);
        session = it.kept.session;
        clip = refl;
      } in
      happened schemas w (with_client at d w) false (event.Copy at ids) live new [] lines keeps
      (copies schemas w at c it.made ids (Ok (clip_tree clip)) (copied_is ids _ (is_copy schemas state it.kept.peer))) prints
      (fits_client schemas w live keeps.fits at d (record one { clip = Some clip }) new kept room queues set) (ap to_client queues)

  pub copy_refused : (ids : List (List ℕ)) (fault : ClipFault) → IsCopyOf one.peer ids (Err fault) → Answers schemas w (on_copy schemas at ids w) (Err (Clip fault)) live
  copy_refused ids fault is_copy = (
    copies schemas w at it.client it.made ids (Err fault) (copied_is ids _ (is_copy schemas (client_state schemas w.room.history it.client) it.kept.peer)),
    keeps,
  )

  pub paste_nothing : (target : TargetTree) → one.clip ≡ None → Answers schemas w (on_paste schemas at target w) (Err NoClip) live
  paste_nothing target none = (pastes_nothing schemas w at it.client it.made target (sym it.kept.clip ∙ ap (option_map clip_tree) none), keeps)

  module _ (target : Target) (clip : code.Clip) (has : one.clip ≡ Some clip) where
    pasted_is : (o : Result RecordOps PasteFault) → IsPasteOf clip one.peer target o
        → schemas.clips.pasted (clip_tree clip) (shown_in schemas w it.client) (target_tree target) ≡ o
    pasted_is o is_paste =
        ap (λ (s : WorldSchemas EditFault). s.clips.pasted (clip_tree clip) (shown_in schemas w it.client) (target_tree target)) keeps.fits.tables.are
        ∙ ap (λ m. pasted (clip_tree clip) m (target_tree target)) (sym (shown_is schemas w live keeps at it.client it.made))
        ∙ is_paste schemas (client_state schemas w.room.history it.client) it.kept.peer

    its_clip : it.client.clip ≡ Some (clip_tree clip)
    its_clip = sym it.kept.clip ∙ ap (option_map clip_tree) has

    -- a paste is an edit by what is pasted
    pub paste_done : (wanted : RecordOps) → IsPasteOf clip one.peer target (Ok wanted) → (answer : Result (Vec OutLine) (StepFault EditFault)) (new : Live)
        → Answers schemas w (on_edit schemas at wanted w) answer new → Answers schemas w (on_paste schemas at (target_tree target) w) answer new
    paste_done wanted is_paste answer new answers =
        subst (λ o. Answers schemas w o answer new) (sym (pastes schemas w at it.client it.made (target_tree target) (clip_tree clip) (Ok wanted) its_clip (pasted_is (Ok wanted) is_paste))) answers

    pub paste_refused : (fault : PasteFault) → IsPasteOf clip one.peer target (Err fault) → Answers schemas w (on_paste schemas at (target_tree target) w) (Err (Paste fault)) live
    paste_refused fault is_paste =
        (pastes schemas w at it.client it.made (target_tree target) (clip_tree clip) (Err fault) its_clip (pasted_is (Err fault) is_paste), keeps)
