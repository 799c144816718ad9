-- That a client over a link by which a session serves it goes its way, and refuses nothing.
use Rattle.std.proofs.Common.{◌≡◌, ℕ, Bool, true, false, cond, List, [], ◌∷◌, ◌++◌, Option, Some, None, Result, Ok, Err, refl, sym, ap, subst, ◌∙◌, append_assoc}
use Rattle.std.specs.Prelude.{is_some, nat_le, length}
use Rattle.std.specs.Option.{option_map_or}
use Rattle.std.proofs.lemmas.List.Sums.{fold-append}
use Rattle.rooms_val.specs.Data.{Data}
use Rattle.rooms_val.specs.View.{data_of}
use Rattle.client_link.specs.Waiting.{Waits}
use Rattle.client_link.specs.declared.waiting.Heard.{Heard}
use Rattle.client_link.specs.declared.waiting.Heard.TheVariants as heard
use Rattle.field_ops.specs.RecordOps.{RecordOps}
use Rattle.link_texts.specs.declared.fault.WireFault.{WireFault}
use Rattle.room_events.specs.Events.{events_of}
use Rattle.room_events.specs.Legal.{Legal}
use Rattle.room_events.specs.declared.room_event.RoomEvent.{RoomEvent}
use Rattle.room_join.specs.Joiners.{Joiner, Outcome, bail_with, on_completed, acts}
use Rattle.room_join.specs.declared.act.Act.{Act}
use Rattle.room_join.specs.declared.act.Act.TheVariants as act
use Rattle.room_link.specs.Exchange.{Arrival}
use Rattle.room_model.specs.Schemas.{WorldSchemas, AreLawfulTogether}
use Rattle.room_model.specs.declared.fault.StepFault.TheVariants.{Edit, Limit}
use Rattle.side_effects.specs.declared.fault.EditFault.{EditFault}
use Rattle.signal_core.specs.declared.watch.TheConstants.{MOST_WATCHES}
use Rattle.sync_client.specs.Calls.{ClientState}
use Rattle.sync_client.specs.Faults.{take_fault}
use Rattle.sync_client.specs.Presences.{with_presence}
use Rattle.sync_client.specs.declared.fault.TakeFault.{TakeFault}
use Rattle.sync_msgs.specs.declared.server_message.ServerMessage.{ServerMessage}
use Rattle.sync_peer.specs.Calls.{completion, refusal, bailed, bail_done}
use Rattle.undo_marks.specs.declared.fault.BailFault.{BailFault}
use Rattle.wire_text.specs.Feeding.{Assembly}
use Rattle.wire_text.specs.Streams.{PiecesComeBack}
use Rattle.join_laws.specs.Linked.{step_by, Comes, joined, acted, waited, ServesOver}
use Rattle.join_laws.specs.Sessions.{given_in, BeginsWith}
use Rattle.join_laws.specs.Serving.{Serves}
use Rattle.join_laws.specs.Texts.{texts_in, AllPieces, AreDue, GivesNext}
use Rattle.join_laws.specs.Ways.{Step, does, hears, idles, Way, first_way, goes_on, after_act, after_coming, step_on, after_step, way_of}
use Rattle.join_laws.proofs.TextLemmas.{due_by_pieces, wait_gives_next}
use Rattle.join_laws.proofs.WayLemmas.{all_taken}

module _ (schemas : WorldSchemas EditFault) where
  -- what a client does leaves the pieces that wait, and whether the link has ended
  abbrev pub Keeps : Joiner → Outcome → Type 0
  Keeps joiner (Ok made) = (made.joiner.waiting ≡ joiner.waiting) × (made.joiner.is_lost ≡ joiner.is_lost)
  Keeps joiner (Err fault) = Unit {0}

  edits_keep : (joiner : Joiner) (o : Result RecordOps EditFault) → Keeps joiner (on_completed schemas o joiner)
  edits_keep joiner (Ok diff) = (refl, refl)
  edits_keep joiner (Err fault) = tt

  presence_keeps : (joiner : Joiner) (d : Data) (o : Option EditFault)
      → Keeps joiner (option_map_or (λ fault. Err (Edit fault)) o (Ok (record { joiner = record joiner { state = record joiner.state { client = with_presence d joiner.state.client } }; lines = [] })))
  presence_keeps joiner d None = (refl, refl)
  presence_keeps joiner d (Some fault) = tt

  bail_keeps : (joiner : Joiner) (o : Result (Unit {0}) BailFault) (state : ClientState) → Keeps joiner (bail_with o state joiner)
  bail_keeps joiner (Ok done) state = (refl, refl)
  bail_keeps joiner (Err fault) state = tt

  watch_keeps : (joiner watching : Joiner) (b : Bool) → watching.waiting ≡ joiner.waiting → watching.is_lost ≡ joiner.is_lost → Keeps joiner (cond b (Err Limit) (Ok (record { joiner = watching; lines = [] })))
  watch_keeps joiner watching true waits lost = tt
  watch_keeps joiner watching false waits lost = (waits, lost)

  pub acts_keep : (a : Act) (joiner : Joiner) → Keeps joiner (acts schemas a joiner)
  acts_keep (act.Edit diff) joiner = edits_keep joiner (completion schemas joiner.state diff)
  acts_keep (act.Presence val) joiner = presence_keeps joiner (data_of val) (refusal schemas joiner.state (data_of val))
  acts_keep (act.Mark name) joiner = (refl, refl)
  acts_keep act.Undo joiner = (refl, refl)
  acts_keep act.Redo joiner = (refl, refl)
  acts_keep (act.Bail name) joiner = bail_keeps joiner (bail_done name joiner.state.client.marks) (bailed schemas name joiner.state)
  acts_keep (act.Watch view) joiner = watch_keeps joiner _ (nat_le MOST_WATCHES (length joiner.watched)) refl refl
  acts_keep (act.Query type query) joiner = (refl, refl)
  acts_keep act.Show joiner = (refl, refl)

  module _ (messages : List ServerMessage) where
    -- what came and what is still due are the messages
    record IsDue (way : Way) (left : List Arrival) : Type 0 where
      rest : List ServerMessage
      are : way.came ++ rest ≡ messages
      due : AreDue way.joiner.waiting (texts_in left) rest

    due_begins : (way : Way) (left : List Arrival) → IsDue way left → BeginsWith messages way.came
    due_begins way left d = (d.rest, d.are)

    after_done : (way : Way) (left : List Arrival) (o : Outcome) → Keeps way.joiner o → IsDue way left → IsDue (after_act schemas o way) left
    after_done way left (Ok made) keeps d = record { rest = d.rest; are = d.are; due = subst (λ a. AreDue a (texts_in left) d.rest) (sym keeps.0) d.due }
    after_done way left (Err fault) keeps d = d

    fault_stays : (way : Way) (step : Step) (fault : TakeFault) → way.fault ≡ Some fault → after_step schemas way step ≡ way
    fault_stays way step fault is = ap (λ (o : Option TakeFault). cond (is_some o) way (step_on schemas step way)) is

    none_stays : (way : Way) (step : Step) → way.fault ≡ None → step_on schemas step way ≡ after_step schemas way step
    none_stays way step is = sym (ap (λ (o : Option TakeFault). cond (is_some o) way (step_on schemas step way)) is)

    -- what holds of where a client has come to
    abbrev Fine : List Arrival → Way → Type 0
    Fine left way = BeginsWith messages way.came × (way.fault ≡ None → IsDue way left)

    all_due : (left : List Arrival) (way : Way) → IsDue way left → Fine left way
    all_due left way d = (due_begins way left d, λ none. d)

    done_fine : (left : List Arrival) (way : Way) (a : Act) → Fine left way → Fine left (after_step schemas way (does a))
    done_fine left way a f =
        elim way.fault as (λ o. way.fault ≡ o → Fine left (after_step schemas way (does a))) [
          | None ↦ λ none. subst (Fine left) (none_stays way (does a) none)
              (all_due left (after_act schemas (acts schemas a way.joiner) way) (after_done way left (acts schemas a way.joiner) (acts_keep a way.joiner) (f.1 none)))
          | Some fault ↦ λ is. subst (Fine left) (sym (fault_stays way (does a) fault is)) f
        ] refl

    message_fine : (left : List Arrival) (way : Way) (message : ServerMessage) (now : Assembly) (more : List ServerMessage) (o : Option TakeFault)
        → way.came ++ (message ∷ more) ≡ messages → AreDue now (texts_in left) more → Fine left (after_coming schemas message o (record way.joiner { waiting = now }) way)
    message_fine left way message now more None are due =
        all_due left (after_coming schemas message None (record way.joiner { waiting = now }) way) (record { rest = more; are = append_assoc way.came (message ∷ []) more ∙ are; due = due })
    message_fine left way message now more (Some fault) are due = ((more, append_assoc way.came (message ∷ []) more ∙ are), λ none. absurd (cc))

    waited_fine : (left : List Arrival) (way : Way) (h : Heard) (now : Assembly) (step : Step) (d : List ServerMessage) → way.fault ≡ None → way.came ++ d ≡ messages → GivesNext h now (texts_in left) d
        → step_by h now ≡ Some step → Fine left (after_step schemas way step)
    waited_fine left way (heard.Message message) now step d none are next is =
        let same : hears message now ≡ step = cc in
        let joins : way.came ++ (message ∷ next.0) ≡ messages = ap (λ ms. way.came ++ ms) (sym next.1) ∙ are in
        subst (λ s. Fine left (after_step schemas way s)) same
        (subst (Fine left) (none_stays way (hears message now) none) (message_fine left way message now next.0 (take_fault way.joiner.state.client message) joins next.2))
    waited_fine left way (heard.Refused fault) now step d none are next is = absurd next
    waited_fine left way heard.Lost now step d none are next is = absurd (cc)
    waited_fine left way heard.Idle now step d none are next is =
        let same : idles now ≡ step = cc in
        subst (λ s. Fine left (after_step schemas way s)) same
        (subst (Fine left) (none_stays way (idles now) none) (all_due left (goes_on schemas (record way.joiner { waiting = now }) way) (record { rest = d; are = are; due = next })))

    module _ (version room : ℕ) (coming : List Arrival) (back : PiecesComeBack) (pieces : AllPieces messages (texts_in coming)) where
      comes_fine : (way : Way) (left : List Arrival) → Comes schemas version room coming way left → Fine left way
      comes_fine _ _ joined = all_due coming (first_way schemas version room) (record { rest = messages; are = refl; due = due_by_pieces back messages (texts_in coming) pieces })
      comes_fine _ left (acted way _ a c) = done_fine left way a (comes_fine way left c)
      comes_fine _ rest (waited way left _ h now step c none waits is) =
          let d = (comes_fine way left c).1 none in
          waited_fine rest way h now step d.rest none d.are (wait_gives_next way.joiner.waiting now left rest h d.rest d.due waits) is

  module _ (back : PiecesComeBack) (version room : ℕ) (coming : List Arrival) where
    by_steps : (way : Way) (left : List Arrival) → Comes schemas version room coming way left → (steps : List Step) × (way_of schemas version room steps ≡ way)
    by_steps _ _ joined = ([], refl)
    by_steps _ left (acted way _ a c) =
        let s = by_steps way left c in
        (s.0 ++ does a ∷ [], fold-append (after_step schemas) (first_way schemas version room) s.0 (does a ∷ []) ∙ ap (λ w. after_step schemas w (does a)) s.1)
    by_steps _ _ (waited way left rest h now step c none waits is) =
        let s = by_steps way left c in
        (s.0 ++ step ∷ [], fold-append (after_step schemas) (first_way schemas version room) s.0 (step ∷ []) ∙ ap (λ w. after_step schemas w step) s.1)

    module _ (way : Way) (left : List Arrival) (c : Comes schemas version room coming way left) where
      begins_with : (mine : List RoomEvent) → ServesOver mine coming way.said → BeginsWith (given_in mine) way.came
      begins_with mine s =
          let first = (comes_fine s.messages version room coming back s.pieces way left c).0 in
          (first.0 ++ s.given.0, sym (append_assoc way.came first.0 s.given.0) ∙ ap (λ ms. ms ++ s.given.0) first.1 ∙ s.given.1)

      pub served : (mine : List RoomEvent) → ServesOver mine coming way.said → (steps : List Step) × (way_of schemas version room steps ≡ way) × Serves mine way
      served mine s =
          let steps = by_steps way left c in
          (steps.0, steps.1, record { came = begins_with mine s; said = s.sent })

      module _ (last : ℕ) (events : List RoomEvent) (number : ℕ) (lawful : AreLawfulTogether schemas) (legal : Legal schemas.room last events) (s : ServesOver (events_of number events) coming way.said) where
        pub took_all : way.fault ≡ None
        took_all =
            let h = served (events_of number events) s in
            subst (λ (w : Way). w.fault ≡ None) h.1 (all_taken schemas version lawful last events number legal room h.0 (subst (Serves (events_of number events)) (sym h.1) h.2))

        pub refuses_none : (fault : WireFault) (now : Assembly) (rest : List Arrival) → Waits way.joiner.waiting left (heard.Refused fault) now rest → ⊥
        refuses_none fault now rest waits =
            let d = (comes_fine s.messages version room coming back s.pieces way left c).1 took_all in
            wait_gives_next way.joiner.waiting now left rest (heard.Refused fault) d.rest d.due waits
