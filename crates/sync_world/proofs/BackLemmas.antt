-- A client of a world makes marks, and goes back to them.
use Rattle.std.proofs.Common.{◌≡◌, ℕ, ◌<◌, ◌≤◌, true, false, cond, List, [], ◌∷◌, length, get_or, slice_get, slice_set, Option, Some, None, is_some, Result, Ok, Err, refl, sym, ap, subst, ◌∙◌, ◌+◌, nat_lt, arith}
use Rattle.std.specs.Prelude.{vec_len}
use Rattle.std.specs.Global.{Vec}
use Rattle.std.specs.Option.{option_map_or}
use Rattle.std.proofs.lemmas.Bool.{ltb-true, ltb-false}
use Rattle.std.proofs.lemmas.List.{length-append}
use Rattle.field_ops.specs.RecordOps.{RecordOps}
use Rattle.doc_model.specs.Inverses.{inverse_diff}
use Rattle.doc_model.specs.Marks as marks
use Rattle.doc_model.specs.Marks.{Marks}
use Rattle.room_model.specs.Schemas.{WorldSchemas}
use Rattle.room_model.specs.Replicas.{Client, session_of, edit, with_work, unsent, push_all, push_none, after_diff, schema_of}
use Rattle.room_model.specs.Worlds as model
use Rattle.room_model.specs.Worlds.{with_client, with_pushing, shown_in, inverse_in, on_mark, on_undo, on_redo, on_bail, happens, after_event}
use Rattle.room_model.specs.declared.event.Event.{Event}
use Rattle.room_model.specs.declared.event.Event.TheVariants as event
use Rattle.room_model.specs.declared.line.OutLine.{OutLine}
use Rattle.room_model.specs.declared.line.OutLine.TheVariants as line
use Rattle.room_model.specs.declared.fault.StepFault.TheVariants.{NoSuchClient, NoMark}
use Rattle.side_effects.specs.declared.fault.EditFault.{EditFault}
use Rattle.sync_client.specs.Calls.{ClientState}
use Rattle.sync_peer.specs.Calls.{with_marks, with_diff, with_marked, back_of, undone, redone, bailed, bail_done}
use Rattle.sync_peer.specs.Standing as peer_of
use Rattle.sync_peer.specs.declared.peer.Peer.{Peer}
use Rattle.undo_marks.specs.declared.fault.BailFault.{BailFault}
use Rattle.undo_marks.specs.declared.fault.BailFault.TheVariants as bail
use Rattle.world_laws.specs.Queues.{queues_after}
use Rattle.world_laws.proofs.LaterLemmas.{got_at}
use Rattle.world_queues.specs.Queues.{to_client}
use Rattle.sync_world.specs.States.{client_state}
use Rattle.sync_world.specs.Pushing.{push_more}
use Rattle.sync_world.specs.Standing.{IsClient, Fits, Keeps}
use Rattle.sync_world.specs.Answers.{Answers}
use Rattle.sync_world.specs.declared.live.Live.{Live}
use Rattle.sync_world.specs.declared.live.WorldClient.{WorldClient}
use Rattle.sync_world.proofs.ListLemmas.{set_again}
use Rattle.sync_world.proofs.WorldLemmas.{base_alike}
use Rattle.sync_world.proofs.OutcomeLemmas.{if_some, if_none}
use Rattle.sync_world.proofs.PartLemmas.{happened, fits_client, fits_idle, pushing_over}
use Rattle.sync_world.proofs.EventLemmas.{is_there}
use Rattle.sync_world.proofs.EditLemmas.{still_keeps}
use Rattle.sync_world.proofs.ShowLemmas.{shown_is}

-- a diff of marks is pushed if it isn't empty, since then alone there is more to push
more_pushed : (owed : ℕ) (diff : RecordOps) (c : Client) → owed ≡ length c.pending → push_more owed (with_diff diff c) ≡ after_diff diff c
more_pushed owed [] c same =
    elim (nat_lt owed (length c.pending)) as (λ b. nat_lt owed (length c.pending) ≡ b → cond b (push_all c) (push_none c) ≡ push_none c) [
      | true ↦ λ is. let less = ltb-true owed (length c.pending) is in absurd (omega (arith, same, less))
      | false ↦ λ is. refl
    ] refl
more_pushed owed (d ∷ diff) c same =
    let e : Client = with_work (edit (d ∷ diff)) c in
    let longer : length e.pending ≡ length c.pending + 1 = length-append c.pending (unsent (edit (d ∷ diff)) ∷ []) in
    elim (nat_lt owed (length e.pending)) as (λ b. nat_lt owed (length e.pending) ≡ b → cond b (push_all e) (push_none e) ≡ push_all e) [
      | true ↦ λ is. refl
      | false ↦ λ is. let more = ltb-false owed (length e.pending) is in absurd (omega (arith, same, longer, more))
    ] refl

-- a diff of marks changes what is pending alone
pub record IsAlike (d c : Client) : Type 0 where
  pub version : d.version ≡ c.version
  pub reached : d.reached ≡ c.reached
  pub connection : d.connection ≡ c.connection
  pub clip : d.clip ≡ c.clip

diff_alike : (diff : RecordOps) (m : Marks) (c : Client) → IsAlike (with_diff diff (record c { marks = m })) c
diff_alike [] m c = record { version = refl; reached = refl; connection = refl; clip = refl }
diff_alike (d ∷ diff) m c = record { version = refl; reached = refl; connection = refl; clip = refl }

abbrev answer : Option RecordOps → Result (Unit {0}) BailFault
answer o = option_map_or (λ diff. Ok tt) o (Err bail.NoMark)

bail_found : (o : Option RecordOps) → answer o ≡ Ok tt → (diff : RecordOps) × (o ≡ Some diff)
bail_found None is = absurd (cc)
bail_found (Some diff) is = (diff, refl)

bail_none : (o : Option RecordOps) → answer o ≡ Err bail.NoMark → o ≡ None
bail_none None is = refl
bail_none (Some diff) is = absurd (cc)

-- where more is pending than before, all is pushed; else nothing
pub more_all : (owed n : ℕ) (c : Client) → owed < n → n ≡ length c.pending → push_more owed c ≡ push_all c
more_all owed n c less same =
    elim (nat_lt owed (length c.pending)) as (λ b. nat_lt owed (length c.pending) ≡ b → cond b (push_all c) (push_none c) ≡ push_all c) [
      | true ↦ λ is. refl
      | false ↦ λ is. let more = ltb-false owed (length c.pending) is in absurd (omega (arith, same, less, more))
    ] refl

pub more_none : (owed n : ℕ) (c : Client) → n ≤ owed → n ≡ length c.pending → push_more owed c ≡ push_none c
more_none owed n c more same =
    elim (nat_lt owed (length c.pending)) as (λ b. nat_lt owed (length c.pending) ≡ b → cond b (push_all c) (push_none c) ≡ push_none c) [
      | true ↦ λ is. let less = ltb-true owed (length c.pending) is in absurd (omega (arith, same, less, more))
      | false ↦ λ is. refl
    ] refl

-- a client that pushes nothing leaves the parts as they are
pub fits_none : (schemas : WorldSchemas EditFault) (w : model.World) (live : Live) (at : ℕ) (c : Client) → Fits schemas w live → slice_get w.clients at ≡ Some c → Fits schemas (with_pushing at (push_none c) w) live
fits_none schemas w live at c fits made =
    fits_idle schemas w at c live (subst (λ (v : model.World). Fits schemas v live) (sym (λ i. record w { clients = set_again w.clients at c made i })) fits)

found : {X : Type 0} (o : Option X) → true ≡ is_some o → (x : X) × (o ≡ Some x)
found None is = absurd (cc)
found (Some x) is = (x, refl)

missing : {X : Type 0} (o : Option X) → false ≡ is_some o → o ≡ None
missing None is = refl
missing (Some x) is = absurd (cc)

module _ (schemas : WorldSchemas EditFault) (w : model.World) (live : Live) (keeps : Keeps schemas w live) (at : ℕ) (one : WorldClient) (less : at < vec_len live.clients)
    (is : one ≡ get_or live.clients.items at one) (after : Peer) (mid : Live) (room : mid.room ≡ live.room) (queues : mid.queues ≡ live.queues)
    (set : mid.clients.items ≡ slice_set live.clients.items at (record one { peer = after })) where
  -- what a client that pushes what is more has come to
  abbrev pub PushesMore : ℕ → Live → Type 0
  PushesMore owed new = (schemas : WorldSchemas EditFault) (world : model.World) (client : Client) → Fits schemas world mid → slice_get world.clients at ≡ Some client
      → Fits schemas (with_pushing at (push_more owed client) world) new

  pub mark_done : (name : List ℕ) → ((schemas : WorldSchemas EditFault) (state : ClientState) → peer_of.Stands schemas state one.peer → peer_of.Stands schemas (with_marks (marks.after_mark name state.client.marks) state) after)
      → (lines : Vec OutLine) → lines.items ≡ [] → Answers schemas w (on_mark at name w) (Ok lines) mid
  mark_done name marked lines prints =
      let it = is_there schemas w live at at one keeps.fits refl less is in
      let c = it.client in
      let d : Client = record c { marks = marks.after_mark name c.marks } in
      let kept : IsClient schemas w.room.history d (record one { peer = after }) = record {
        peer = subst (λ b. peer_of.Stands schemas (record { base = b; client = d }) after) (sym (base_alike schemas w.room.history c d refl refl refl)) (marked schemas (client_state schemas w.room.history c) it.kept.peer);
        session = it.kept.session;
        clip = it.kept.clip;
      } in
      happened schemas w (with_client at d w) false (event.Mark at name) live mid [] lines keeps (if_some _ (slice_get w.clients at) (Err NoSuchClient) c it.made) prints
      (fits_client schemas w live keeps.fits at d (record one { peer = after }) mid kept room queues set) (ap to_client queues)

  module _ (c : Client) (made : slice_get w.clients at ≡ Some c) (kept : IsClient schemas w.room.history c one) where
    -- a diff that marks gave was done, and is pushed
    went : (e : Event) (ls : List OutLine) (diff : RecordOps) (m : Marks) → after_event schemas false w e ≡ happens ls (with_pushing at (after_diff diff (record c { marks = m })) w)
        → queues_after schemas w (to_client live.queues) e ≡ to_client live.queues → peer_of.Stands schemas (with_marked diff m (client_state schemas w.room.history c)) after
        → (owed : ℕ) → owed ≡ length c.pending → (new : Live) → PushesMore owed new → to_client new.queues ≡ to_client mid.queues
        → (lines : Vec OutLine) → lines.items ≡ ls → Answers schemas w (after_event schemas false w e) (Ok lines) new
    went e ls diff m so still stands owed same new pushes given lines prints =
        let b : Client = record c { marks = m } in
        let d = with_diff diff b in
        let alike = diff_alike diff m c in
        let is_kept : IsClient schemas w.room.history d (record one { peer = after }) = record {
          peer = subst (λ b. peer_of.Stands schemas (record { base = b; client = d }) after) (sym (base_alike schemas w.room.history c d alike.version alike.reached alike.connection)) stands;
          session = kept.session ∙ ap session_of (sym alike.connection);
          clip = kept.clip ∙ sym alike.clip;
        } in
        happened schemas w (with_pushing at (after_diff diff b) w) false e live new ls lines keeps so prints
        (subst (λ p. Fits schemas (with_pushing at p w) new) (more_pushed owed diff b same)
        (subst (λ (v : model.World). Fits schemas v new) (pushing_over schemas w at d (push_more owed d))
        (pushes schemas (with_client at d w) d (fits_client schemas w live keeps.fits at d (record one { peer = after }) mid is_kept room queues set) (got_at w.clients at c d made))))
        (given ∙ ap to_client queues ∙ sym still)

    -- nothing was to be done
    stayed : (e : Event) (ls : List OutLine) → after_event schemas false w e ≡ happens ls w → queues_after schemas w (to_client live.queues) e ≡ to_client live.queues
        → peer_of.Stands schemas (client_state schemas w.room.history c) after → (lines : Vec OutLine) → lines.items ≡ ls → Answers schemas w (after_event schemas false w e) (Ok lines) mid
    stayed e ls so still stands lines prints =
        let there = still_keeps schemas w live keeps at one less is after mid room queues set c made (record { peer = stands; session = kept.session; clip = kept.clip }) in
        happened schemas w w false e live mid ls lines keeps so prints there.fits (ap to_client queues ∙ sym still)

    back_seen : (diff : RecordOps) → back_of schemas (client_state schemas w.room.history c) diff ≡ inverse_in schemas w c diff
    back_seen diff = ap (λ m. inverse_diff (schema_of schemas c).admits m diff) (shown_is schemas w live keeps at c made)

    undid : ((schemas : WorldSchemas EditFault) (state : ClientState) → peer_of.Stands schemas state one.peer → peer_of.Stands schemas (undone schemas state) after) → (diff : RecordOps) → marks.undo_diff c.marks ≡ Some diff
        → peer_of.Stands schemas (with_marked diff (marks.after_undo (inverse_in schemas w c diff) c.marks) (client_state schemas w.room.history c)) after
    undid goes diff found =
        let state = client_state schemas w.room.history c in
        subst (λ b. peer_of.Stands schemas (with_marked diff (marks.after_undo b c.marks) state) after) (back_seen diff)
        (subst (λ o. peer_of.Stands schemas (option_map_or (λ diff. with_marked diff (marks.after_undo (back_of schemas state diff) c.marks) state) o state) after) found (goes schemas state kept.peer))

    redid : ((schemas : WorldSchemas EditFault) (state : ClientState) → peer_of.Stands schemas state one.peer → peer_of.Stands schemas (redone schemas state) after) → (diff : RecordOps) → marks.redo_diff c.marks ≡ Some diff
        → peer_of.Stands schemas (with_marked diff (marks.after_redo (inverse_in schemas w c diff) c.marks) (client_state schemas w.room.history c)) after
    redid goes diff found =
        let state = client_state schemas w.room.history c in
        subst (λ b. peer_of.Stands schemas (with_marked diff (marks.after_redo b c.marks) state) after) (back_seen diff)
        (subst (λ o. peer_of.Stands schemas (option_map_or (λ diff. with_marked diff (marks.after_redo (back_of schemas state diff) c.marks) state) o state) after) found (goes schemas state kept.peer))

  pub undo_done : ((schemas : WorldSchemas EditFault) (state : ClientState) → peer_of.Stands schemas state one.peer → true ≡ is_some (marks.undo_diff state.client.marks))
      → ((schemas : WorldSchemas EditFault) (state : ClientState) → peer_of.Stands schemas state one.peer → peer_of.Stands schemas (undone schemas state) after)
      → (owed : ℕ) → ((schemas : WorldSchemas EditFault) (state : ClientState) → peer_of.Stands schemas state one.peer → owed ≡ length state.client.pending)
      → (new : Live) → PushesMore owed new → to_client new.queues ≡ to_client mid.queues → (lines : Vec OutLine) → lines.items ≡ line.Undo at true ∷ [] → Answers schemas w (on_undo schemas at w) (Ok lines) new
  undo_done did goes owed owes new pushes given lines prints =
      let it = is_there schemas w live at at one keeps.fits refl less is in
      let c = it.client in
      let state = client_state schemas w.room.history c in
      let there = found (marks.undo_diff c.marks) (did schemas state it.kept.peer) in
      let diff = there.0 in
      went c it.made it.kept (event.Undo at) (line.Undo at true ∷ []) diff (marks.after_undo (inverse_in schemas w c diff) c.marks)
      (if_some _ (slice_get w.clients at) (Err NoSuchClient) c it.made ∙ if_some _ (marks.undo_diff c.marks) (happens (line.Undo at false ∷ []) w) diff there.1) refl
      (undid c it.made it.kept goes diff there.1) owed (owes schemas state it.kept.peer) new pushes given lines prints

  pub undo_not_done : ((schemas : WorldSchemas EditFault) (state : ClientState) → peer_of.Stands schemas state one.peer → false ≡ is_some (marks.undo_diff state.client.marks))
      → ((schemas : WorldSchemas EditFault) (state : ClientState) → peer_of.Stands schemas state one.peer → peer_of.Stands schemas (undone schemas state) after)
      → (lines : Vec OutLine) → lines.items ≡ line.Undo at false ∷ [] → Answers schemas w (on_undo schemas at w) (Ok lines) mid
  undo_not_done did goes lines prints =
      let it = is_there schemas w live at at one keeps.fits refl less is in
      let c = it.client in
      let state = client_state schemas w.room.history c in
      let none = missing (marks.undo_diff c.marks) (did schemas state it.kept.peer) in
      stayed c it.made it.kept (event.Undo at) (line.Undo at false ∷ [])
      (if_some _ (slice_get w.clients at) (Err NoSuchClient) c it.made ∙ if_none _ (marks.undo_diff c.marks) (happens (line.Undo at false ∷ []) w) none) refl
      (subst (λ o. peer_of.Stands schemas (option_map_or (λ diff. with_marked diff (marks.after_undo (back_of schemas state diff) c.marks) state) o state) after) none (goes schemas state it.kept.peer)) lines prints

  pub redo_done : ((schemas : WorldSchemas EditFault) (state : ClientState) → peer_of.Stands schemas state one.peer → true ≡ is_some (marks.redo_diff state.client.marks))
      → ((schemas : WorldSchemas EditFault) (state : ClientState) → peer_of.Stands schemas state one.peer → peer_of.Stands schemas (redone schemas state) after)
      → (owed : ℕ) → ((schemas : WorldSchemas EditFault) (state : ClientState) → peer_of.Stands schemas state one.peer → owed ≡ length state.client.pending)
      → (new : Live) → PushesMore owed new → to_client new.queues ≡ to_client mid.queues → (lines : Vec OutLine) → lines.items ≡ line.Redo at true ∷ [] → Answers schemas w (on_redo schemas at w) (Ok lines) new
  redo_done did goes owed owes new pushes given lines prints =
      let it = is_there schemas w live at at one keeps.fits refl less is in
      let c = it.client in
      let state = client_state schemas w.room.history c in
      let there = found (marks.redo_diff c.marks) (did schemas state it.kept.peer) in
      let diff = there.0 in
      went c it.made it.kept (event.Redo at) (line.Redo at true ∷ []) diff (marks.after_redo (inverse_in schemas w c diff) c.marks)
      (if_some _ (slice_get w.clients at) (Err NoSuchClient) c it.made ∙ if_some _ (marks.redo_diff c.marks) (happens (line.Redo at false ∷ []) w) diff there.1) refl
      (redid c it.made it.kept goes diff there.1) owed (owes schemas state it.kept.peer) new pushes given lines prints

  pub redo_not_done : ((schemas : WorldSchemas EditFault) (state : ClientState) → peer_of.Stands schemas state one.peer → false ≡ is_some (marks.redo_diff state.client.marks))
      → ((schemas : WorldSchemas EditFault) (state : ClientState) → peer_of.Stands schemas state one.peer → peer_of.Stands schemas (redone schemas state) after)
      → (lines : Vec OutLine) → lines.items ≡ line.Redo at false ∷ [] → Answers schemas w (on_redo schemas at w) (Ok lines) mid
  redo_not_done did goes lines prints =
      let it = is_there schemas w live at at one keeps.fits refl less is in
      let c = it.client in
      let state = client_state schemas w.room.history c in
      let none = missing (marks.redo_diff c.marks) (did schemas state it.kept.peer) in
      stayed c it.made it.kept (event.Redo at) (line.Redo at false ∷ [])
      (if_some _ (slice_get w.clients at) (Err NoSuchClient) c it.made ∙ if_none _ (marks.redo_diff c.marks) (happens (line.Redo at false ∷ []) w) none) refl
      (subst (λ o. peer_of.Stands schemas (option_map_or (λ diff. with_marked diff (marks.after_redo (back_of schemas state diff) c.marks) state) o state) after) none (goes schemas state it.kept.peer)) lines prints

  pub bail_is_done : (name : List ℕ) → ((schemas : WorldSchemas EditFault) (state : ClientState) → peer_of.Stands schemas state one.peer → bail_done name state.client.marks ≡ Ok tt)
      → ((schemas : WorldSchemas EditFault) (state : ClientState) → peer_of.Stands schemas state one.peer → peer_of.Stands schemas (bailed schemas name state) after)
      → (owed : ℕ) → ((schemas : WorldSchemas EditFault) (state : ClientState) → peer_of.Stands schemas state one.peer → owed ≡ length state.client.pending)
      → (new : Live) → PushesMore owed new → to_client new.queues ≡ to_client mid.queues → (lines : Vec OutLine) → lines.items ≡ [] → Answers schemas w (on_bail schemas at name w) (Ok lines) new
  bail_is_done name did goes owed owes new pushes given lines prints =
      let it = is_there schemas w live at at one keeps.fits refl less is in
      let c = it.client in
      let state = client_state schemas w.room.history c in
      let there = bail_found (marks.bail_diff name c.marks) (did schemas state it.kept.peer) in
      let diff = there.0 in
      went c it.made it.kept (event.Bail at name) [] diff (marks.after_bail name c.marks)
      (if_some _ (slice_get w.clients at) (Err NoSuchClient) c it.made ∙ if_some _ (marks.bail_diff name c.marks) (Err NoMark) diff there.1) refl
      (subst (λ o. peer_of.Stands schemas (option_map_or (λ diff. with_marked diff (marks.after_bail name c.marks) state) o state) after) there.1 (goes schemas state it.kept.peer))
      owed (owes schemas state it.kept.peer) new pushes given lines prints

  pub bail_refused : (name : List ℕ) → ((schemas : WorldSchemas EditFault) (state : ClientState) → peer_of.Stands schemas state one.peer → bail_done name state.client.marks ≡ Err bail.NoMark)
      → ((schemas : WorldSchemas EditFault) (state : ClientState) → peer_of.Stands schemas state one.peer → peer_of.Stands schemas state after)
      → Answers schemas w (on_bail schemas at name w) (Err NoMark) mid
  bail_refused name refuses stays =
      let it = is_there schemas w live at at one keeps.fits refl less is in
      let c = it.client in
      let state = client_state schemas w.room.history c in (
        if_some _ (slice_get w.clients at) (Err NoSuchClient) c it.made ∙ if_none _ (marks.bail_diff name c.marks) (Err NoMark) (bail_none (marks.bail_diff name c.marks) (refuses schemas state it.kept.peer)),
        still_keeps schemas w live keeps at one less is after mid room queues set c it.made (record { peer = stays schemas state it.kept.peer; session = it.kept.session; clip = it.kept.clip }),
      )
