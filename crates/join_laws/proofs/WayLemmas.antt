-- That a client which a session serves takes all that comes on its way.
use Rattle.std.proofs.Common.{◌≡◌, ◌⊎◌, ℕ, ◌≤◌, nat_le, pos, negsuc, Bool, true, false, cond, List, [], ◌∷◌, ◌++◌, length, map, Option, Some, None, Result, Ok, Err, refl, sym, ap, subst, ◌∙◌, append-nil}
use Rattle.std.specs.Prelude.{fold, is_some}
use Rattle.std.specs.Option.{option_map_or}
use Rattle.std.proofs.lemmas.List.Elements.{filter_map-append}
use Rattle.rooms_val.specs.Data.{Data, Pairs}
use Rattle.rooms_val.specs.View.{data_of}
use Rattle.client_link.specs.declared.saying.Saying.TheVariants as said_as
use Rattle.doc_model.specs.Documents.{replay}
use Rattle.doc_model.specs.Marks.{Marks, after_mark, undo_diff, redo_diff, bail_diff, after_undo, after_redo, after_bail}
use Rattle.field_ops.specs.RecordOps.{RecordOps}
use Rattle.room_join.specs.Joiners.{Joiner, Outcome, bail_with, on_completed, acts, with_message, pushes, after_pushes}
use Rattle.room_join.specs.declared.act.Act.{Act}
use Rattle.room_join.specs.declared.act.Act.TheVariants as act
use Rattle.room_model.specs.Bases.{whole_for}
use Rattle.room_model.specs.Histories.{History, records_of, up_to}
use Rattle.room_model.specs.Messages.{others_of}
use Rattle.room_model.specs.Replicas.{edit, presence, with_work, is_open, push_all, new_client, pending_diffs, schema_of, plan_of, seen_by, base_of, shown_document, others_by}
use Rattle.room_model.specs.Schemas.{WorldSchemas, AreLawfulTogether, Plan, doc, pres, seen_along}
use Rattle.room_model.specs.declared.connection.Connection.TheVariants.{Open}
use Rattle.room_model.specs.declared.fault.StepFault.TheVariants.{Edit, Limit}
use Rattle.room_model.proofs.BaseLemmas.{rising-records, whole_document, whole_presence}
use Rattle.room_events.specs.Events.{events_of}
use Rattle.room_events.specs.Legal.{Legal, state_of}
use Rattle.room_events.specs.declared.room_event.RoomEvent.{RoomEvent}
use Rattle.side_effects.specs.declared.fault.EditFault.{EditFault}
use Rattle.signal_core.specs.declared.watch.TheConstants.{MOST_WATCHES}
use Rattle.sync_client.specs.Calls.{ClientState, after_message, asks}
use Rattle.sync_client.specs.Faults.{take_fault}
use Rattle.sync_client.specs.Presences.{with_presence}
use Rattle.sync_client.specs.declared.fault.TakeFault.{TakeFault}
use Rattle.sync_msgs.specs.declared.client_message.ClientMessage.{ClientMessage}
use Rattle.sync_msgs.specs.declared.server_message.ServerMessage.{ServerMessage}
use Rattle.sync_peer.specs.Calls.{shown, completion, refusal, with_marks, with_marked, bailed, bail_done, back_of}
use Rattle.wire_text.specs.Feeding.{Assembly}
use Rattle.undo_marks.specs.declared.fault.BailFault.{BailFault}
use Rattle.join_laws.specs.Serving.{Serves}
use Rattle.join_laws.specs.Ways.{Step, does, hears, idles, Way, message_in, messages_in, first_way, goes_on, after_act, after_coming, step_on, after_step, way_of}
use Rattle.join_laws.proofs.FaringLemmas.{Adds, Fares, fares_first, fares_adding, fares_saying, fares_taking}
use Rattle.join_laws.proofs.ServedLemmas.{not_refused, has_base, is_within}

-- what a client does by itself

adds_marks : (marks : Marks) (state : ClientState) → Adds state (with_marks marks state)
adds_marks marks state = record { base = refl; connection = refl; reached = refl; of_version = refl; works = []; pending = sym (append-nil state.client.pending) }

adds_nothing : (state : ClientState) → Adds state state
adds_nothing state = record { base = refl; connection = refl; reached = refl; of_version = refl; works = []; pending = sym (append-nil state.client.pending) }

adds_marked : (diff : RecordOps) (marks : Marks) (state : ClientState) → Adds state (with_marked diff marks state)
adds_marked [] marks state = adds_marks marks state
adds_marked (c ∷ diff) marks state = record { base = refl; connection = refl; reached = refl; of_version = refl; works = edit (c ∷ diff) ∷ []; pending = refl }

adds_done : (done : RecordOps → Marks) (o : Option RecordOps) (state : ClientState) → Adds state (option_map_or (λ diff. with_marked diff (done diff) state) o state)
adds_done done None state = adds_nothing state
adds_done done (Some diff) state = adds_marked diff (done diff) state

adds_presence : (d : Data) (state : ClientState) → Adds state (record state { client = with_presence d state.client })
adds_presence d state =
    let set = record state.client { presence = Some d } in
    elim (is_open state.client.connection) as (λ b. Adds state (record state { client = cond b (with_work (presence d) set) set })) [
      | true ↦ record { base = refl; connection = refl; reached = refl; of_version = refl; works = presence d ∷ []; pending = refl }
      | false ↦ record { base = refl; connection = refl; reached = refl; of_version = refl; works = []; pending = sym (append-nil state.client.pending) }
    ]

module _ (schemas : WorldSchemas EditFault) where
  -- what happens adds works
  abbrev OutcomeAdds : Joiner → Outcome → Type 0
  OutcomeAdds joiner (Ok made) = Adds joiner.state made.joiner.state
  OutcomeAdds joiner (Err fault) = Unit {0}

  edits_add : (joiner : Joiner) (o : Result RecordOps EditFault) → OutcomeAdds joiner (on_completed schemas o joiner)
  edits_add joiner (Ok diff) = record { base = refl; connection = refl; reached = refl; of_version = refl; works = edit diff ∷ []; pending = refl }
  edits_add joiner (Err fault) = tt

  presence_adds : (joiner : Joiner) (d : Data) (o : Option EditFault)
      → OutcomeAdds joiner (option_map_or (λ fault. Err (Edit fault)) o (Ok (record { joiner = record joiner { state = record joiner.state { client = with_presence d joiner.state.client } }; lines = [] })))
  presence_adds joiner d None = adds_presence d joiner.state
  presence_adds joiner d (Some fault) = tt

  bail_adds : (joiner : Joiner) (o : Result (Unit {0}) BailFault) (state : ClientState) → Adds joiner.state state → OutcomeAdds joiner (bail_with o state joiner)
  bail_adds joiner (Ok done) state h = h
  bail_adds joiner (Err fault) state h = tt

  watch_adds : (joiner watching : Joiner) (b : Bool) → watching.state ≡ joiner.state → OutcomeAdds joiner (cond b (Err Limit) (Ok (record { joiner = watching; lines = [] })))
  watch_adds joiner watching true same = tt
  watch_adds joiner watching false same = subst (Adds joiner.state) (sym same) (adds_nothing joiner.state)

  acts_add : (a : Act) (joiner : Joiner) → OutcomeAdds joiner (acts schemas a joiner)
  acts_add (act.Edit diff) joiner = edits_add joiner (completion schemas joiner.state diff)
  acts_add (act.Presence val) joiner = presence_adds joiner (data_of val) (refusal schemas joiner.state (data_of val))
  acts_add (act.Mark name) joiner = adds_marks (after_mark name joiner.state.client.marks) joiner.state
  acts_add act.Undo joiner = adds_done (λ diff. after_undo (back_of schemas joiner.state diff) joiner.state.client.marks) (undo_diff joiner.state.client.marks) joiner.state
  acts_add act.Redo joiner = adds_done (λ diff. after_redo (back_of schemas joiner.state diff) joiner.state.client.marks) (redo_diff joiner.state.client.marks) joiner.state
  acts_add (act.Bail name) joiner =
      bail_adds joiner (bail_done name joiner.state.client.marks) (bailed schemas name joiner.state)
      (adds_done (λ diff. after_bail name joiner.state.client.marks) (bail_diff name joiner.state.client.marks) joiner.state)
  acts_add (act.Watch view) joiner = watch_adds joiner _ (nat_le MOST_WATCHES (length joiner.watched)) refl
  acts_add (act.Query type query) joiner = adds_nothing joiner.state
  acts_add act.Show joiner = adds_nothing joiner.state

-- the messages among what was said

messages_said : (messages : List ClientMessage) → messages_in (map said_as.Message messages) ≡ messages
messages_said [] = refl
messages_said (message ∷ messages) = ap (λ ms. message ∷ ms) (messages_said messages)

module _ (schemas : WorldSchemas EditFault) (version : ℕ) where
  abbrev admits : List ℕ → Data → Bool
  admits = (schemas.client version).admits

  -- a client took all that came so far, and fares so
  pub record GoesWell (way : Way) : Type 0 where
    pub taken : way.fault ≡ None
    pub fares : Fares schemas.room admits (schemas.client version).versions version way.joiner.state (messages_in way.said) way.came

  first_well : (room : ℕ) → GoesWell (first_way schemas version room)
  first_well room = record { taken = refl; fares = fares_first schemas.room admits (schemas.client version).versions version (asks (schemas.client version).versions 0 (new_client version)) refl }

  on_well : (joiner : Joiner) (way : Way) → way.fault ≡ None → Fares schemas.room admits (schemas.client version).versions version joiner.state (messages_in way.said) way.came
      → GoesWell (goes_on schemas joiner way)
  on_well joiner way none f =
      let messages = (push_all joiner.state.client).messages in
      let said : messages_in (way.said ++ pushes schemas joiner) ≡ messages_in way.said ++ messages = filter_map-append message_in way.said (pushes schemas joiner) ∙ ap (λ ms. messages_in way.said ++ ms) (messages_said messages) in
      record {
        taken = none;
        fares = subst (λ ms. Fares schemas.room admits (schemas.client version).versions version (after_pushes schemas joiner).state ms way.came) (sym said)
            (fares_saying schemas.room admits (schemas.client version).versions version joiner.state (messages_in way.said) way.came f);
      }

  act_well : (way : Way) (o : Outcome) → OutcomeAdds schemas way.joiner o → GoesWell way → GoesWell (after_act schemas o way)
  act_well way (Ok made) adds g =
      on_well made.joiner way g.taken (fares_adding schemas.room admits (schemas.client version).versions version (messages_in way.said) way.came way.joiner.state made.joiner.state adds g.fares)
  act_well way (Err fault) adds g = g

  taken_well : (way : Way) (message : ServerMessage) (waiting : Assembly) → take_fault way.joiner.state.client message ≡ None → GoesWell way
      → GoesWell (after_coming schemas message None (record way.joiner { waiting = waiting }) way)
  taken_well way message waiting none g =
      let state = way.joiner.state in
      let f = fares_taking schemas.room admits (schemas.client version).versions version state (messages_in way.said) way.came message none g.fares in
      let same : version ≡ state.client.version = sym g.fares.3.of_version in
      on_well (with_message schemas message (record way.joiner { waiting = waiting })) (record way { came = way.came ++ message ∷ [] }) g.taken
      (subst (λ v. Fares schemas.room admits (schemas.client version).versions version (after_message (schemas.client v).admits schemas.room.is_document state message) (messages_in way.said) (way.came ++ message ∷ [])) same f)

  -- who didn't take a message stays
  stays : (way : Way) (fault : TakeFault) (steps : List Step) → way.fault ≡ Some fault → fold (after_step schemas) way steps ≡ way
  stays way fault [] is = refl
  stays way fault (step ∷ steps) is =
      ap (λ o. fold (after_step schemas) (cond (is_some o) way (step_on schemas step way)) steps) is ∙ stays way fault steps is

  module _ (lawful : AreLawfulTogether schemas) (last : ℕ) (events : List RoomEvent) (number : ℕ) (legal : Legal schemas.room last events) where
    -- a client that is served takes what comes
    comes_well : (way : Way) (message : ServerMessage) (waiting : Assembly) (fault : TakeFault) → GoesWell way → take_fault way.joiner.state.client message ≡ Some fault
        → Serves (events_of number events) (after_coming schemas message (Some fault) (record way.joiner { waiting = waiting }) way) → ⊥
    comes_well way message waiting fault g is serves =
        let none = not_refused schemas.room lawful.room admits (schemas.client version).versions version (lawful.same version) last number g.fares.0 g.fares.1 g.fares.2 way.joiner.state
        (messages_in way.said) way.came g.fares.3 events legal serves.said message serves.came in
        absurd (cc)

    -- what follows a step, if the client took all before it
    abbrev EndsWell : List Step → Way → Type 0
    EndsWell steps way = Serves (events_of number events) (fold (after_step schemas) way steps) → GoesWell (fold (after_step schemas) way steps)

    stepped : (way : Way) (step : Step) → way.fault ≡ None → step_on schemas step way ≡ after_step schemas way step
    stepped way step none = sym (ap (λ (o : Option TakeFault). cond (is_some o) way (step_on schemas step way)) none)

    goes_well : (way : Way) (steps : List Step) → GoesWell way → EndsWell steps way
    goes_well way [] g = λ serves. g
    goes_well way (does a ∷ steps) g =
        subst (EndsWell steps) (stepped way (does a) g.taken) (goes_well (after_act schemas (acts schemas a way.joiner) way) steps (act_well way (acts schemas a way.joiner) (acts_add schemas a way.joiner) g))
    goes_well way (idles waiting ∷ steps) g =
        let joiner = record way.joiner { waiting = waiting } in
        subst (EndsWell steps) (stepped way (idles waiting) g.taken) (goes_well (goes_on schemas joiner way) steps (on_well joiner way g.taken g.fares))
    goes_well way (hears message waiting ∷ steps) g =
        let joiner = record way.joiner { waiting = waiting } in
        subst (EndsWell steps) (stepped way (hears message waiting) g.taken) (elim (take_fault way.joiner.state.client message) as (λ o. take_fault way.joiner.state.client message ≡ o → EndsWell steps (after_coming schemas message o joiner way)) [
          | None ↦ λ none. goes_well (after_coming schemas message None joiner way) steps (taken_well way message waiting none g)
          | Some fault ↦ λ is serves.
              let stopped = after_coming schemas message (Some fault) joiner way in
              absurd (comes_well way message waiting fault g is (subst (Serves (events_of number events)) (stays stopped fault steps refl) serves))
        ] refl)

    -- all of it

    pub way_well : (room : ℕ) (steps : List Step) → Serves (events_of number events) (way_of schemas version room steps) → GoesWell (way_of schemas version room steps)
    way_well room steps serves = goes_well (first_way schemas version room) steps (first_well room) serves

    module _ (room : ℕ) (steps : List Step) (serves : Serves (events_of number events) (way_of schemas version room steps)) where
      abbrev end : Way
      end = way_of schemas version room steps

      pub all_taken : end.fault ≡ None
      all_taken = (way_well room steps serves).taken

      pub base_is : (plan : Plan) → schemas.room.plan_for (schemas.client version).versions ≡ Ok plan
          → end.joiner.state.base ≡ whole_for schemas.room plan number (records_of (up_to end.joiner.state.client.reached (state_of schemas.room last events).history))
      base_is plan planned =
          let f = (way_well room steps serves).fares in
          has_base schemas.room lawful.room admits (schemas.client version).versions version (lawful.same version) last number f.0 f.1 f.2 end.joiner.state (messages_in end.said) end.came f.3 events legal
          serves.said serves.came plan planned

      pub reached_within : (end.joiner.state.client.reached ≡ negsuc 0) ⊎ ((clock : ℕ) × (end.joiner.state.client.reached ≡ pos clock) × (clock ≤ length (state_of schemas.room last events).history))
      reached_within =
          let f = (way_well room steps serves).fares in
          is_within schemas.room lawful.room admits (schemas.client version).versions version (lawful.same version) last number f.0 f.1 f.2 end.joiner.state (messages_in end.said) end.came f.3 events legal
          serves.said serves.came

      pub version_is : end.joiner.state.client.version ≡ version
      version_is = (way_well room steps serves).fares.3.of_version

      -- in the words of clients

      abbrev state : ClientState
      state = end.joiner.state

      abbrev history : History
      history = (state_of schemas.room last events).history

      module _ (plan : Plan) (planned : schemas.room.plan_for (schemas.client version).versions ≡ Ok plan) where
        plan_is : plan_of schemas state.client ≡ Ok plan
        plan_is = ap (λ v. schemas.room.plan_for (schemas.client v).versions) version_is ∙ planned

        seen_is : (m : Pairs) → seen_along schemas.room plan m ≡ seen_by schemas (plan_of schemas state.client) m
        seen_is m = sym (ap (λ o. seen_by schemas o m) plan_is)

        pub document_is : doc schemas.room state.base ≡ base_of schemas history state.client
        document_is =
            let reached = up_to state.client.reached history in
            ap (doc schemas.room) (base_is plan planned) ∙ whole_document schemas.room lawful.room plan number (records_of reached) (rising-records reached) ∙ seen_is (doc schemas.room (records_of reached))

        pub presence_is : pres schemas.room state.base ≡ others_by schemas history state.client (Open number)
        presence_is =
            let reached = up_to state.client.reached history in
            ap (pres schemas.room) (base_is plan planned) ∙ whole_presence schemas.room lawful.room plan number (records_of reached) (rising-records reached)
            ∙ seen_is (others_of schemas.room number (records_of reached))

        pub shown_is : shown schemas state ≡ shown_document schemas history state.client
        shown_is = ap (λ document. replay (schema_of schemas state.client).admits document (pending_diffs state.client)) document_is
