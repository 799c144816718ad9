-- A client's mark brings its document back, whatever happens that spares it.
use Rattle.std.proofs.Common.{◌≡◌, ◌≢◌, ℕ, zero, suc, nat_le, Bool, true, false, cond, List, [], ◌∷◌, ◌++◌, length, map, filter_map, slice_get, slice_set, Option, Some, None, Ok, Err, Result, refl, sym, ap, subst, ◌∙◌}
use Rattle.std.specs.Prelude.{is_none}
use Rattle.std.specs.Option.{option_map_or, option_and_then}
use Rattle.std.specs.List.{cons_option}
use Rattle.std.proofs.lemmas.List.{append-nil}
use Rattle.std.proofs.lemmas.List.Elements.{filter_map-append}
use Rattle.std.proofs.lemmas.Option.{same_Some}
use Rattle.rooms_val.specs.Data.{Data, Pairs, map as map_data, members_of, IsSound}
use Rattle.rooms_val.specs.Maps.{AreRising}
use Rattle.rooms_val.specs.View.{data_of}
use Rattle.field_ops.specs.RecordOps.{RecordOps}
use Rattle.doc_model.specs.Documents.{step, replay}
use Rattle.doc_model.specs.Marks as marks
use Rattle.doc_model.specs.Marks.{Marks, Item, mark, inverse}
use Rattle.doc_model.specs.Restoring.{Restores, AreBackAdmitted}
use Rattle.doc_model.proofs.InverseLemmas.{rising-step}
use Rattle.doc_model.proofs.ReplayLemmas.{replay-push}
use Rattle.doc_model.proofs.RestoreLemmas.{mark_restores, other_keeps, edit_keeps, bail_restores, undo_is_bail}
use Rattle.room_model.specs.Clips.{ClipTree}
use Rattle.room_model.specs.Schemas.{WorldSchemas, AreLawfulTogether, doc}
use Rattle.room_model.specs.Histories.{records_of, up_to}
use Rattle.room_model.specs.Rooms.{Notice, next_for}
use Rattle.room_model.specs.Replicas.{after_end, after_notice, Work, edit, presence, Pending, Client, new_client, is_open, session_of, diff_in, pending_diffs, Pushing, push_none, push_all, push_times, next_push, send_first, with_work, unsent, all_unsent, after_diff, after_presence, after_cut, schema_of, plan_of, seen_by, base_of}
use Rattle.room_model.specs.Worlds.{Channel, World, Stepped, with_client, with_channel, with_pushing, Outcome, happens, at_client, ask, is_at_limit, connect_if_allowed, shown_in, inverse_in, take_edit, take_clip, edit_pasted, after_marked, handle_first, deliver_first, after_event}
use Rattle.room_model.specs.declared.clip_fault.ClipFault.{ClipFault}
use Rattle.room_model.specs.declared.clip_fault.PasteFault.{PasteFault}
use Rattle.room_model.specs.declared.connection.Connection.TheVariants.{Asking}
use Rattle.room_model.specs.declared.event.Event.{Event}
use Rattle.room_model.specs.declared.event.Event.TheVariants as event
use Rattle.room_model.specs.declared.fault.StepFault.TheVariants.{Limit}
use Rattle.room_model.specs.declared.limits.TheConstants.{MOST_CLIENTS}
use Rattle.room_model.proofs.BaseLemmas.{rising-records, rising-seen_with}
use Rattle.room_model.proofs.ClosingLemmas.{by_number}
use Rattle.room_model.proofs.LookUpLemmas.{rising-filter}
use Rattle.sync_msgs.specs.declared.end_reason.EndReason.{EndReason}
use Rattle.sync_msgs.specs.declared.end_reason.EndReason.TheVariants.{ClientTooOld, ServerTooOld, InvalidRecord, RoomFull, Slow}
use Rattle.world_laws.specs.Reachable.{ReachableWorld, stepped}
use Rattle.world_laws.specs.Restoring.{next_to, Spares, ShowsSound, BringsBack, IsSinceMark, marked, went_on}
use Rattle.world_laws.proofs.EventLemmas.{Holds, from_option, in_session}
use Rattle.world_laws.proofs.PushLemmas.{next_same, same_pushed, pushing_keeps}
use Rattle.world_laws.proofs.LaterLemmas.{got_at, got_else, got_still, reached_stays}

-- the diffs that are pending

abbrev diffs_of : List Pending → List RecordOps
diffs_of items = filter_map (λ item. diff_in item.work) items

diffs_unsent : (diffs : List RecordOps) → diffs_of (all_unsent (map edit diffs)) ≡ diffs
diffs_unsent [] = refl
diffs_unsent (diff ∷ diffs) = ap (λ rest. diff ∷ rest) (diffs_unsent diffs)

diffs_sent : (n : ℕ) (items : List Pending) → diffs_of (send_first n items) ≡ diffs_of items
diffs_sent n [] = refl
diffs_sent n (item ∷ items) = elim (is_none item.sent_as) as (λ b. diffs_of (cond b (record item { sent_as = Some n } ∷ items) (item ∷ send_first n items)) ≡ diffs_of (item ∷ items)) [
  | true ↦ refl
  | false ↦ ap (cons_option (diff_in item.work)) (diffs_sent n items)
]

diffs_pushed : (n : ℕ) (c : Client) → pending_diffs (push_times n c).client ≡ pending_diffs c
diffs_pushed zero c = refl
diffs_pushed (suc n) c =
    elim (next_push c) as (λ o. next_push c ≡ o
    → pending_diffs (option_map_or (λ one. let more = push_times n one.client in record more { messages = one.messages ++ more.messages }) o (push_none c)).client ≡ pending_diffs c) [
      | None ↦ λ is. refl
      | Some p ↦ λ is. diffs_pushed n p.client ∙ ap (λ (q : Pushing). pending_diffs q.client) (next_same c p is).2 ∙ diffs_sent (suc c.pushes) c.pending
    ] refl

diffs_worked : (c : Client) (work : Work) → pending_diffs (push_all (with_work work c)).client ≡ pending_diffs c ++ diffs_of (unsent work ∷ [])
diffs_worked c work = diffs_pushed (length (with_work work c).pending) (with_work work c) ∙ filter_map-append (λ item. diff_in item.work) c.pending (unsent work ∷ [])

-- what comes first in the channel of a client's session comes next to the client
comes_next : (w : World) (n k : ℕ) (c : Client) (channel : Channel) (notice : Notice) (notices : List Notice) → slice_get w.clients n ≡ Some c → session_of c.connection ≡ Some k
    → slice_get w.channels k ≡ Some channel → channel.to_client ≡ notice ∷ notices → next_to w n ≡ Some notice
comes_next w n k c channel notice notices at has there first =
    let in_channel : Channel → Option Notice = λ channel. slice_get channel.to_client 0 in
    let in_session : ℕ → Option Notice = λ k. option_and_then in_channel (slice_get w.channels k) in
    ap (option_and_then (λ (c : Client). option_and_then in_session (session_of c.connection))) at ∙ ap (option_and_then in_session) has ∙ ap (option_and_then in_channel) there
    ∙ ap (λ ns. slice_get ns 0) first

-- how a client goes on: it is of its version and at its clock, and has these marks and pending diffs
pub record GoesOn (c d : Client) (ms : Marks) (diffs : List RecordOps) : Type 0 where
  pub version : d.version ≡ c.version
  pub reached : d.reached ≡ c.reached
  pub marks_are : d.marks ≡ ms
  pub diffs_are : pending_diffs d ≡ diffs

worked_on : (c e : Client) (work : Work) → e.version ≡ c.version → e.reached ≡ c.reached → e.pending ≡ c.pending
    → GoesOn c (push_all (with_work work e)).client e.marks (pending_diffs c ++ diffs_of (unsent work ∷ []))
worked_on c e work version reached pending =
    let same = same_pushed (length (with_work work e).pending) (with_work work e) in
    record {
      version = same.version ∙ version;
      reached = same.reached ∙ reached;
      marks_are = same.marks;
      diffs_are = diffs_worked e work ∙ ap (λ items. diffs_of items ++ diffs_of (unsent work ∷ [])) pending;
    }

module _ {F : Type 0} (schemas : WorldSchemas F) (w : World) (n : ℕ) (c : Client) (at : slice_get w.clients n ≡ Some c) where
  -- what the client shows by these diffs
  abbrev shows : List RecordOps → Pairs
  shows diffs = replay (schema_of schemas c).admits (base_of schemas w.room.history c) diffs

  -- it shows so in a world whose history up to its clock is the same
  shown_on : (v : World) (d : Client) (ms : Marks) (diffs : List RecordOps) → GoesOn c d ms diffs → up_to c.reached v.room.history ≡ up_to c.reached w.room.history → shown_in schemas v d ≡ shows diffs
  shown_on v d ms diffs on stays =
      let part : up_to d.reached v.room.history ≡ up_to c.reached w.room.history = ap (λ r. up_to r v.room.history) on.reached ∙ stays in
      λ i. replay (schemas.client (on.version i)).admits (seen_by schemas (schemas.room.plan_for (schemas.client (on.version i)).versions) (doc schemas.room (records_of (part i)))) (on.diffs_are i)

  rising_base : AreRising (base_of schemas w.room.history c)
  rising_base =
      let m = records_of (up_to c.reached w.room.history) in
      let rising = rising-records (up_to c.reached w.room.history) in
      elim (plan_of schemas c) as (λ o. AreRising (seen_by schemas o (doc schemas.room m))) [ Ok plan ↦ rising-seen_with schemas.room plan schemas.room.is_document m rising | Err reason ↦ rising-filter schemas.room.is_document m rising ]

  rising_replay : (admits : List ℕ → Data → Bool) (diffs : List RecordOps) (m : Pairs) → AreRising m → AreRising (replay admits m diffs)
  rising_replay admits [] m rising = rising
  rising_replay admits (diff ∷ diffs) m rising = rising_replay admits diffs (step admits m diff) (rising-step admits diff m rising)

  rising_shown : AreRising (shown_in schemas w c)
  rising_shown = rising_replay (schema_of schemas c).admits (pending_diffs c) (base_of schemas w.room.history c) rising_base

  -- what becomes of the client by an event that spares it
  module _ (name : List ℕ) where
    pub data Spared (d : Client) : Type 0 where
      rests : GoesOn c d c.marks (pending_diffs c) → Spared d
      marks_other : (other : List ℕ) → name ≢ other → GoesOn c d (marks.after_mark other c.marks) (pending_diffs c) → Spared d
      edits : (diff : RecordOps) → AreRising diff → GoesOn c d (marks.after_edit (inverse_in schemas w c diff) c.marks) (pending_diffs c ++ diff ∷ []) → Spared d

    resting : Spared c
    resting = rests (record { version = refl; reached = refl; marks_are = refl; diffs_are = refl })

    abbrev IsSpared : World → Type 0
    IsSpared v = (d : Client) × (slice_get v.clients n ≡ Some d) × Spared d

    itself : IsSpared w
    itself = (c, at, resting)

    -- a client set, be it this one or another
    set_spared : (m : ℕ) (e d : Client) → slice_get w.clients m ≡ Some e → ((e ≡ c) → (m ≡ n) → Spared d) → IsSpared (with_client m d w)
    set_spared m e d there own = by_number (λ b. IsSpared (with_client m d w)) n m
        (λ same.
        let it : e ≡ c = same_Some _ _ (sym there ∙ ap (slice_get w.clients) (sym same) ∙ at) in
        (d, ap (slice_get (slice_set w.clients m d)) same ∙ got_at w.clients m e d there, own it (sym same)))
        (λ apart. (c, got_else w.clients m n d apart ∙ at, resting))

    pushing_spared : (m : ℕ) (e : Client) (p : Pushing) → slice_get w.clients m ≡ Some e → ((e ≡ c) → (m ≡ n) → Spared p.client) → (v : World) → v.clients ≡ w.clients → IsSpared (with_pushing m p v)
    pushing_spared m e p there own v same =
        let alone : IsSpared (with_client m p.client w) = set_spared m e p.client there own in
        let here : IsSpared (with_client m p.client v) = (alone.0, ap (λ cs. slice_get (slice_set cs m p.client) n) same ∙ alone.1, alone.2) in
        pushing_keeps IsSpared v m p here (λ k channel is open_at. here)

    -- one that stays as it is, but for what none of this speaks of
    same_on : (e d : Client) → e ≡ c → d.version ≡ e.version → d.reached ≡ e.reached → d.marks ≡ e.marks → pending_diffs d ≡ pending_diffs e → Spared d
    same_on e d it version reached ms diffs =
        let on : GoesOn e d e.marks (pending_diffs e) = record { version = version; reached = reached; marks_are = ms; diffs_are = diffs } in
        rests (subst (λ x. GoesOn x d x.marks (pending_diffs x)) it on)

    ended_spared : (reason : EndReason) (e : Client) → e ≡ c → Spared (after_end reason e)
    ended_spared Slow e it = same_on e _ it refl refl refl (diffs_unsent (pending_diffs e))
    ended_spared ClientTooOld e it = same_on e _ it refl refl refl (diffs_unsent (pending_diffs e))
    ended_spared ServerTooOld e it = same_on e _ it refl refl refl (diffs_unsent (pending_diffs e))
    ended_spared InvalidRecord e it = same_on e _ it refl refl refl (diffs_unsent (pending_diffs e))
    ended_spared RoomFull e it = same_on e _ it refl refl refl (diffs_unsent (pending_diffs e))

    -- what another client does
    others_spared : (m : ℕ) (e : Client) (p : Pushing) → slice_get w.clients m ≡ Some e → m ≢ n → (v : World) → v.clients ≡ w.clients → IsSpared (with_pushing m p v)
    others_spared m e p there apart = pushing_spared m e p there (λ it same. absurd (apart same))

    presence_spared : (m : ℕ) (d : Data) (e : Client) → slice_get w.clients m ≡ Some e → IsSpared (with_pushing m (after_presence d e) w)
    presence_spared m d e there =
        let set : Client = record e { presence = Some d } in
        elim (is_open e.connection) as (λ b. IsSpared (with_pushing m (cond b (push_all (with_work (presence d) set)) (push_none set)) w)) [
          | true ↦ pushing_spared m e (push_all (with_work (presence d) set)) there (λ it same.
              let on = worked_on e set (presence d) refl refl refl in
              same_on e (push_all (with_work (presence d) set)).client it on.version on.reached on.marks_are (on.diffs_are ∙ append-nil (pending_diffs e))) w refl
          | false ↦ pushing_spared m e (push_none set) there (λ it same. same_on e set it refl refl refl refl) w refl
        ]

    allowed_spared : (m : ℕ) (readonly : Bool) (e : Client) → slice_get w.clients m ≡ Some e → (o : Option EndReason) → Holds IsSpared (connect_if_allowed schemas m readonly w e o)
    allowed_spared m readonly e there (Some reason) = tt
    allowed_spared m readonly e there None = elim (is_at_limit w) as (λ b. Holds {F = F} IsSpared (cond b (Err Limit) (happens [] (ask schemas m readonly w e)))) [
      | true ↦ tt
      | false ↦ set_spared m e (record e { connection = Asking (length w.room.sessions) }) there (λ it same. same_on e _ it refl refl refl refl)
    ]

    edit_spared : AreLawfulTogether schemas → (m : ℕ) (e : Client) (wanted : RecordOps) → slice_get w.clients m ≡ Some e → (o : Result RecordOps F)
        → (schema_of schemas e).complete (shown_in schemas w e) wanted ≡ o → Holds IsSpared (take_edit schemas m w e o)
    edit_spared lawful m e wanted there (Err fault) is = tt
    edit_spared lawful m e wanted there (Ok diff) is =
        let with_inverse : Client = record e { marks = marks.after_edit (inverse_in schemas w e diff) e.marks } in
        let p = push_all (with_work (edit diff) with_inverse) in
        pushing_spared m e p there (λ it same.
        edits diff (lawful.completed_rises e.version (shown_in schemas w e) wanted diff is)
        (subst (λ x. GoesOn x p.client (marks.after_edit (inverse_in schemas w x diff) x.marks) (pending_diffs x ++ diff ∷ [])) it (worked_on e with_inverse (edit diff) refl refl refl))) w refl

    paste_spared : AreLawfulTogether schemas → (m : ℕ) (o : Result RecordOps PasteFault) → Holds IsSpared (edit_pasted schemas m w o)
    paste_spared lawful m (Err fault) = tt
    paste_spared lawful m (Ok wanted) = from_option IsSpared _ (slice_get w.clients m) _ (λ none. tt) (λ e there. edit_spared lawful m e wanted there _ refl)

    copy_spared : (m : ℕ) (e : Client) (o : Result ClipTree ClipFault) → slice_get w.clients m ≡ Some e → Holds {F = F} IsSpared (take_clip schemas m w e o)
    copy_spared m e (Err fault) there = tt
    copy_spared m e (Ok clip) there = set_spared m e (record e { clip = Some clip }) there (λ it same. same_on e _ it refl refl refl refl)

    mark_spared : (m : ℕ) (other : List ℕ) (e : Client) → slice_get w.clients m ≡ Some e → (m ≡ n → name ≢ other) → IsSpared (with_client m (record e { marks = marks.after_mark other e.marks }) w)
    mark_spared m other e there apart =
        let d : Client = record e { marks = marks.after_mark other e.marks } in
        set_spared m e d there (λ it same.
        let on : GoesOn e d (marks.after_mark other e.marks) (pending_diffs e) = record { version = refl; reached = refl; marks_are = refl; diffs_are = refl } in
        marks_other other (apart same) (subst (λ x. GoesOn x d (marks.after_mark other x.marks) (pending_diffs x)) it on))

    module _ (lawful : AreLawfulTogether schemas) where
      in_client : (m : ℕ) (next : Client → Outcome F) → ((e : Client) → slice_get w.clients m ≡ Some e → Holds IsSpared (next e)) → Holds IsSpared (at_client m w next)
      in_client m next k = from_option IsSpared next (slice_get w.clients m) _ (λ none. tt) k

      spared : (trace : Bool) (e : Event) → Spares w n name e → Holds IsSpared (after_event schemas trace w e)
      spared trace (event.Client version) h = elim (nat_le MOST_CLIENTS (length w.clients)) as (λ b. Holds {F = F} IsSpared (cond b (Err Limit) (happens [] (record w { clients = w.clients ++ new_client version ∷ [] })))) [
        | true ↦ tt
        | false ↦ (c, got_still w.clients n c (new_client version) at, resting)
      ]
      spared trace (event.Connect m readonly) h =
          in_client m _ (λ e there. from_option IsSpared _ (session_of e.connection) _ (λ off. allowed_spared m readonly e there e.refused) (λ k is. tt))
      spared trace (event.Edit m wanted) h = in_client m _ (λ e there. edit_spared lawful m e wanted there _ refl)
      spared trace (event.Presence m val) h =
          in_client m _ (λ e there. from_option IsSpared _ ((schema_of schemas e).presence_fault (data_of val)) _ (λ none. presence_spared m (data_of val) e there) (λ fault is. tt))
      spared trace (event.Mark m other) h = in_client m _ (λ e there. mark_spared m other e there h)
      spared trace (event.Undo m) h =
          in_client m _ (λ e there. from_option IsSpared _ (marks.undo_diff e.marks) _ (λ none. itself) (λ diff is. others_spared m e _ there h w refl))
      spared trace (event.Redo m) h =
          in_client m _ (λ e there. from_option IsSpared _ (marks.redo_diff e.marks) _ (λ none. itself) (λ diff is. others_spared m e _ there h w refl))
      spared trace (event.Bail m other) h =
          in_client m _ (λ e there. from_option IsSpared _ (marks.bail_diff other e.marks) _ (λ none. tt) (λ diff is. others_spared m e _ there h w refl))
      spared trace (event.Copy m ids) h = in_client m _ (λ e there. copy_spared m e _ there)
      spared trace (event.Paste m dx dy parent prefix) h =
          in_client m _ (λ e there. from_option IsSpared _ e.clip _ (λ none. tt) (λ clip is. paste_spared lawful m _))
      spared trace (event.Handle k) h = in_session IsSpared k w _ (λ s channel there on. elim channel.to_room as (λ ms. Holds IsSpared (handle_first schemas trace k w channel ms)) [
        | [] ↦ tt
        | (said ∷ messages) ↦ itself
      ])
      spared trace (event.Send k) h = in_session IsSpared k w _ (λ s channel there on. from_option IsSpared _ (next_for schemas.room w.room k) _ (λ none. tt) (λ given is. itself))
      spared trace (event.Deliver m) h =
          in_client m _ (λ e there. from_option IsSpared _ (session_of e.connection) _ (λ none. tt) (λ k is. from_option IsSpared _ (slice_get w.channels k) _ (λ none. tt) (λ channel on.
          elim channel.to_client as (λ ns. channel.to_client ≡ ns → Holds {F = F} IsSpared (deliver_first m k w e channel ns)) [
            | [] ↦ λ first. tt
            | (notice ∷ notices) ↦ λ first.
                pushing_spared m e (after_notice w.room.history k e notice) there (λ it same.
                let ends = h same in
                let next = same_Some _ _ (sym ends.1 ∙ ap (next_to w) (sym same) ∙ comes_next w m k e channel notice notices there is on first) in
                subst (λ x. Spared (after_notice w.room.history k e x).client) next (ended_spared ends.0 e it)) (with_channel k (record channel { to_client = notices }) w) refl
          ] refl)))
      spared trace (event.Cut m) h =
          in_client m _ (λ e there. from_option IsSpared _ (session_of e.connection) _ (λ none. tt) (λ k is.
          set_spared m e (after_cut e) there (λ it same. same_on e (after_cut e) it refl refl refl (diffs_unsent (pending_diffs e)))))
      spared trace (event.Lose k) h = in_session IsSpared k w _ (λ s channel there on. itself)
      spared trace (event.Show m) h = in_client m _ (λ e there. itself)
      spared trace event.End h = itself

    -- and what its mark brings back then
    spared_restores : (v : World) (d : Client) (before : Pairs) → up_to c.reached v.room.history ≡ up_to c.reached w.room.history → Spared d
        → IsSound (map_data (members_of (shown_in schemas w c))) → IsSound (map_data (members_of (shown_in schemas v d)))
        → Restores name c.marks (shown_in schemas w c) before → Restores name d.marks (shown_in schemas v d) before
    spared_restores v d before stays (rests on) sound then h =
        subst (λ ms. Restores name ms (shown_in schemas v d) before) (sym on.marks_are) (subst (λ m. Restores name c.marks m before) (sym (shown_on v d _ _ on stays)) h)
    spared_restores v d before stays (marks_other other apart on) sound then h =
        subst (λ ms. Restores name ms (shown_in schemas v d) before) (sym on.marks_are)
        (subst (λ m. Restores name (marks.after_mark other c.marks) m before) (sym (shown_on v d _ _ on stays)) (other_keeps name other c.marks (shown_in schemas w c) before apart h))
    spared_restores v d before stays (edits diff rising on) sound then h =
        let admits = (schema_of schemas c).admits in
        let shown = shown_in schemas w c in
        let now : shown_in schemas v d ≡ step admits shown diff = shown_on v d _ _ on stays ∙ replay-push admits (base_of schemas w.room.history c) (pending_diffs c) diff in
        subst (λ ms. Restores name ms (shown_in schemas v d) before) (sym on.marks_are)
        (subst (λ m. Restores name (marks.after_edit (inverse_in schemas w c diff) c.marks) m before) (sym now)
        (edit_keeps admits name c.marks shown before diff sound (subst (λ m. IsSound (map_data (members_of m))) now then) rising h))

  -- a diff that marks gave is done
  back_shown : (ms : Marks) (diff : RecordOps) (before : Pairs) → step (schema_of schemas c).admits (shown_in schemas w c) diff ≡ before
      → shown_in schemas w (after_diff diff (record c { marks = ms })).client ≡ before
  back_shown ms [] before is = is
  back_shown ms (x ∷ diff) before is =
      shown_on w (after_diff (x ∷ diff) (record c { marks = ms })).client ms (pending_diffs c ++ (x ∷ diff) ∷ []) (worked_on c (record c { marks = ms }) (edit (x ∷ diff)) refl refl refl) refl
      ∙ replay-push (schema_of schemas c).admits (base_of schemas w.room.history c) (pending_diffs c) (x ∷ diff) ∙ is

  -- the client shows a document
  abbrev Shows : Pairs → World → Type 0
  Shows before v = (d : Client) → slice_get v.clients n ≡ Some d → shown_in schemas v d ≡ before

  back_shows : (ms : Marks) (diff : RecordOps) (before : Pairs) → step (schema_of schemas c).admits (shown_in schemas w c) diff ≡ before → Shows before (after_marked schemas n w c diff ms)
  back_shows ms diff before is =
      let p = after_diff diff (record c { marks = ms }) in
      let alone : Shows before (with_client n p.client w) =
      λ d there. subst (λ x. shown_in schemas w x ≡ before) (same_Some _ _ (sym (got_at w.clients n c p.client at) ∙ there)) (back_shown ms diff before is) in
      pushing_keeps (Shows before) w n p alone (λ k channel has there. alone)

  module _ (name : List ℕ) (before : Pairs) (h : Restores name c.marks (shown_in schemas w c) before) where
    bail_shows : (trace : Bool) (diff : RecordOps) → marks.bail_diff name c.marks ≡ Some diff → AreBackAdmitted (schema_of schemas c).admits diff before
        → Holds (Shows before) (after_event schemas trace w (event.Bail n name))
    bail_shows trace diff is fit =
        let done = bail_restores (schema_of schemas c).admits name c.marks (shown_in schemas w c) before diff rising_shown h is fit in
        from_option (Shows before) _ (slice_get w.clients n) _ (λ none. tt) (λ e there. from_option (Shows before) _ (marks.bail_diff name e.marks) _ (λ none. tt) (λ other found.
        let it : c ≡ e = same_Some _ _ (sym at ∙ there) in
        let same : diff ≡ other = same_Some _ _ (sym is ∙ ap (λ (x : Client). marks.bail_diff name x.marks) it ∙ found) in
        subst (λ x. Shows before (after_marked schemas n w x other (marks.after_bail name x.marks))) it
        (subst (λ d. Shows before (after_marked schemas n w c d (marks.after_bail name c.marks))) same (back_shows (marks.after_bail name c.marks) diff before done))))

    undo_shows : (trace : Bool) (diff : RecordOps) (earlier : List Item) (first : RecordOps) (more : List RecordOps) → c.marks.history ≡ earlier ++ mark name ∷ map inverse (first ∷ more)
        → marks.undo_diff c.marks ≡ Some diff → AreBackAdmitted (schema_of schemas c).admits diff before → Holds (Shows before) (after_event schemas trace w (event.Undo n))
    undo_shows trace diff earlier first more parts is fit =
        let found = sym (undo_is_bail name c.marks earlier first more parts) ∙ is in
        let done = bail_restores (schema_of schemas c).admits name c.marks (shown_in schemas w c) before diff rising_shown h found fit in
        from_option (Shows before) _ (slice_get w.clients n) _ (λ none. tt) (λ e there.
        let it : c ≡ e = same_Some _ _ (sym at ∙ there) in
        let known : marks.undo_diff e.marks ≡ Some diff = sym (ap (λ (x : Client). marks.undo_diff x.marks) it) ∙ is in
        from_option (Shows before) _ (marks.undo_diff e.marks) _ (λ none. absurd (let no : Some diff ≡ None = sym known ∙ none in cc)) (λ other found.
        let same : diff ≡ other = same_Some _ _ (sym known ∙ found) in
        subst (λ x. Shows before (after_marked schemas n w x other (marks.after_undo (inverse_in schemas w x other) x.marks))) it
        (subst (λ d. Shows before (after_marked schemas n w c d (marks.after_undo (inverse_in schemas w c d) c.marks))) same
        (back_shows (marks.after_undo (inverse_in schemas w c diff) c.marks) diff before done))))

module _ {F : Type 0} (schemas : WorldSchemas F) where
  pub mark_brings : (trace : Bool) (w : World) (n : ℕ) (name : List ℕ) (c : Client) (made : Stepped) → slice_get w.clients n ≡ Some c
      → after_event schemas trace w (event.Mark n name) ≡ Ok made → BringsBack schemas made.world n name (shown_in schemas w c)
  mark_brings trace w n name c made at is =
      let Brings : World → Type 0 = λ v. BringsBack schemas v n name (shown_in schemas w c) in
      subst (Holds Brings) is (from_option Brings _ (slice_get w.clients n) _ (λ none. tt) (λ e there.
      let d : Client = record e { marks = marks.after_mark name e.marks } in
      let it : e ≡ c = same_Some _ _ (sym there ∙ at) in
      record {
        client = d;
        made = got_at w.clients n e d there;
        restores = subst (λ x. Restores name (marks.after_mark name e.marks) (shown_in schemas w e) (shown_in schemas w x)) it (mark_restores name e.marks (shown_in schemas w e));
      }))

  pub brings_on : (trace : Bool) (w : World) (e : Event) (n : ℕ) (name : List ℕ) (before : Pairs) (made : Stepped) → AreLawfulTogether schemas → ReachableWorld schemas w → Spares w n name e
      → ShowsSound schemas w n → ShowsSound schemas made.world n → after_event schemas trace w e ≡ Ok made → BringsBack schemas w n name before → BringsBack schemas made.world n name before
  brings_on trace w e n name before made lawful reached spares sound then is h =
      let c = h.client in
      let on = subst (Holds (IsSpared schemas w n c h.made name)) is (spared schemas w n c h.made name lawful trace e spares) in
      record {
        client = on.0;
        made = on.1;
        restores = spared_restores schemas w n c h.made name made.world on.0 before (reached_stays schemas w trace e made n c reached is h.made) on.2 (sound c h.made) (then on.0 on.1) h.restores;
      }

  pub bail_brings : (trace : Bool) (w : World) (n : ℕ) (name : List ℕ) (c after : Client) (before : Pairs) (diff : RecordOps) (made : Stepped) → BringsBack schemas w n name before
      → slice_get w.clients n ≡ Some c → marks.bail_diff name c.marks ≡ Some diff → AreBackAdmitted (schema_of schemas c).admits diff before
      → after_event schemas trace w (event.Bail n name) ≡ Ok made → slice_get made.world.clients n ≡ Some after → shown_in schemas made.world after ≡ before
  bail_brings trace w n name c after before diff made h at found fit is now =
      let it : h.client ≡ c = same_Some _ _ (sym h.made ∙ at) in
      let restores = subst (λ x. Restores name x.marks (shown_in schemas w x) before) it h.restores in
      subst (Holds (Shows schemas w n c at before)) is (bail_shows schemas w n c at name before restores trace diff found fit) after now

  pub undo_brings : (trace : Bool) (w : World) (n : ℕ) (name : List ℕ) (c after : Client) (before : Pairs) (diff : RecordOps) (earlier : List Item) (first : RecordOps) (more : List RecordOps)
      (made : Stepped) → BringsBack schemas w n name before → slice_get w.clients n ≡ Some c → c.marks.history ≡ earlier ++ mark name ∷ map inverse (first ∷ more)
      → marks.undo_diff c.marks ≡ Some diff → AreBackAdmitted (schema_of schemas c).admits diff before
      → after_event schemas trace w (event.Undo n) ≡ Ok made → slice_get made.world.clients n ≡ Some after → shown_in schemas made.world after ≡ before
  undo_brings trace w n name c after before diff earlier first more made h at parts found fit is now =
      let it : h.client ≡ c = same_Some _ _ (sym h.made ∙ at) in
      let restores = subst (λ x. Restores name x.marks (shown_in schemas w x) before) it h.restores in
      subst (Holds (Shows schemas w n c at before)) is (undo_shows schemas w n c at name before restores trace diff earlier first more parts found fit) after now

  -- ever since
  module _ (lawful : AreLawfulTogether schemas) (n : ℕ) (name : List ℕ) (before : Pairs) where
    since : (w : World) → IsSinceMark schemas n name before w → ReachableWorld schemas w × ShowsSound schemas w n × BringsBack schemas w n name before
    since _ (marked trace w c made reached at shows is sound) =
        (stepped trace w (event.Mark n name) made reached is, sound, subst (BringsBack schemas made.world n name) shows (mark_brings trace w n name c made at is))
    since _ (went_on trace w e made h spares is sound) =
        let on = since w h in
        (stepped trace w e made on.0 is, sound, brings_on trace w e n name before made lawful on.0 spares on.1 sound is on.2)

    pub ever_since : (w : World) → IsSinceMark schemas n name before w → BringsBack schemas w n name before
    ever_since w h = (since w h).2
