-- What the calls of a peer make of a client that has joined.
use Rattle.std.proofs.Common.{◌≡◌, ℕ, false, List, [], map, Some, None, Result, Ok, Err, refl, sym, ap, subst, ◌∙◌}
use Rattle.std.specs.Global.{Vec}
use Rattle.std.specs.Option.{option_map_or}
use Rattle.rooms_val.specs.Data.{Data}
use Rattle.field_ops.specs.RecordOps.{RecordOps}
use Rattle.fault_texts.specs.Texts.{edit_fault_text, step_fault_text}
use Rattle.live_views.specs.Watches.{Stand}
use Rattle.record_store.specs.Seen as store
use Rattle.record_store.specs.Seen.{Seen}
use Rattle.room_model.specs.Replicas.{new_client, push_all}
use Rattle.room_model.specs.Schemas.{WorldSchemas}
use Rattle.room_model.specs.declared.fault.ConnectFault.{ConnectFault}
use Rattle.room_model.specs.declared.fault.StepFault.TheVariants.{Edit, NoMark}
use Rattle.side_effects.specs.declared.fault.EditFault.{EditFault}
use Rattle.side_effects.specs.declared.fault.EditFault.TheVariants as edit_fault
use Rattle.sync_client.specs.Calls.{ClientState, asking}
use Rattle.sync_client.specs.Presences.{with_presence}
use Rattle.sync_msgs.specs.declared.client_message.ClientMessage.{ClientMessage}
use Rattle.sync_peer.specs.Calls.{completion, refusal, done_by, done_unless, edited}
use Rattle.sync_peer.specs.Standing as peer_of
use Rattle.sync_peer.specs.Standing.{Edits}
use Rattle.sync_peer.specs.Viewing.{store_of, watched, IsClosed, WatchAlike}
use Rattle.sync_peer.specs.declared.peer.Peer.{Peer}
use Rattle.undo_marks.specs.declared.fault.BailFault.{BailFault}
use Rattle.undo_marks.specs.declared.fault.BailFault.TheVariants as bail
use Rattle.client_link.specs.declared.hearing.TheConstants.{LONGEST_REPLY}
use Rattle.wire_text.specs.Feeding.{empty}
use Rattle.room_join.specs.Joiners as model
use Rattle.room_join.specs.Joiners.{Acted, on_edit, on_completed, on_presence, happens, bail_with, new_joiner, after_pushes}
use Rattle.room_join.specs.Standing.{Stands, Answers}
use Rattle.room_join.specs.declared.join_line.JoinLine.{JoinLine}
use Rattle.room_join.specs.declared.joiner.Joiner.{Joiner}

-- a store that stayed is watched alike
pub watch_same : (old new : Seen) → new ≡ old → WatchAlike old new
watch_same old new same = record { watches = ap store.watches same; begun = ap store.begun same }

-- what is answered is one thing
pub answered_is : (answer : Result ClientMessage ConnectFault) (x y : ClientMessage) → answer ≡ Ok x → answer ≡ Ok y → x ≡ y
answered_is answer x y first second = cc

-- a fault of an edit that has a text is no want of memory
pub is_no_want : (fault : EditFault) (text : List ℕ) → edit_fault_text fault ≡ Some text → fault ≡ edit_fault.OutOfMemory → ⊥
is_no_want fault text is want = absurd (let none : edit_fault_text edit_fault.OutOfMemory ≡ Some text = subst (λ f. edit_fault_text f ≡ Some text) want is in cc)

module _ (schemas : WorldSchemas EditFault) (joiner : model.Joiner) (code : Joiner) (stands : Stands schemas joiner code) (after : Peer) where
  -- the client became another one
  pub changed : (state : ClientState) → peer_of.Stands schemas state after → WatchAlike (store_of code.peer) (store_of after)
      → Stands schemas (record joiner { state = state }) (record code { peer = after })
  changed state is alike = record {
    peer = is;
    watched = subst (λ ws. Stand ws (map Some joiner.watched)) (sym alike.watches) stands.watched;
    closed = alike.begun ∙ stands.closed;
    waiting = stands.waiting;
    lost = stands.lost;
  }

  -- the client pushed all that it can
  pub pushed_so : peer_of.Stands schemas (record joiner.state { client = (push_all joiner.state.client).client }) after → WatchAlike (store_of code.peer) (store_of after)
      → Stands schemas (after_pushes schemas joiner) (record code { peer = after })
  pushed_so is alike = changed (record joiner.state { client = (push_all joiner.state.client).client }) is alike

  module _ (alike : WatchAlike (store_of code.peer) (store_of after)) (lines : Vec JoinLine) where
    -- an event happened
    pub answers_with : (state : ClientState) (own : List JoinLine) → peer_of.Stands schemas state after → lines.items ≡ own
        → Answers schemas (happens own state joiner) (Ok lines) (record code { peer = after })
    answers_with state own is are = (record { joiner = record joiner { state = state }; lines = own }, refl, are, changed state is alike)

    -- an edit was done
    pub edit_done : (wanted : RecordOps) → Edits schemas joiner.state (completion schemas joiner.state wanted) after → lines.items ≡ []
        → Answers schemas (on_edit schemas wanted joiner) (Ok lines) (record code { peer = after })
    edit_done wanted edits none =
        elim (completion schemas joiner.state wanted) as (λ o. Edits schemas joiner.state o after → Answers schemas (on_completed schemas o joiner) (Ok lines) (record code { peer = after })) [
          | Ok diff ↦ λ is. (record { joiner = record joiner { state = edited schemas diff joiner.state }; lines = [] }, refl, none, changed (edited schemas diff joiner.state) is alike)
          | Err fault ↦ λ is. absurd is
        ] edits

    -- a presence was set
    pub presence_done : (d : Data) → done_unless (refusal schemas joiner.state d) ≡ Ok tt
        → peer_of.Stands schemas (record joiner.state { client = with_presence d joiner.state.client }) after → lines.items ≡ []
        → Answers schemas (on_presence schemas d joiner) (Ok lines) (record code { peer = after })
    presence_done d fine is none =
        let state : ClientState = record joiner.state { client = with_presence d joiner.state.client } in
        let made : Acted = record { joiner = record joiner { state = state }; lines = [] } in
        elim (refusal schemas joiner.state d) as (λ o. done_unless o ≡ Ok tt
        → Answers schemas (option_map_or (λ fault. Err (Edit fault)) o (Ok made)) (Ok lines) (record code { peer = after })) [
          | None ↦ λ same. (made, refl, none, changed state is alike)
          | Some fault ↦ λ same. absurd (cc)
        ] fine

    -- a bail was done
    pub bail_is_done : (name : List ℕ) (done : Result (Unit {0}) BailFault) (state : ClientState) → done ≡ Ok tt → peer_of.Stands schemas state after → lines.items ≡ []
        → Answers schemas (bail_with done state joiner) (Ok lines) (record code { peer = after })
    bail_is_done name done state fine is none = subst (λ o. Answers schemas (bail_with o state joiner) (Ok lines) (record code { peer = after })) (sym fine) (answers_with state [] is none)

-- an edit is refused
pub edit_refused : (schemas : WorldSchemas EditFault) (joiner : model.Joiner) (code : Joiner) (wanted : RecordOps) (fault : EditFault) (text : List ℕ)
    → ((fault ≡ edit_fault.OutOfMemory → ⊥) → done_by (completion schemas joiner.state wanted) ≡ Err fault) → edit_fault_text fault ≡ Some text
    → Answers schemas (on_edit schemas wanted joiner) (Err text) code
edit_refused schemas joiner code wanted fault text refuses is =
    elim (completion schemas joiner.state wanted) as (λ o. done_by o ≡ Err fault → Answers schemas (on_completed schemas o joiner) (Err text) code) [
      | Ok diff ↦ λ same. absurd (cc)
      | Err other ↦ λ same. let it : other ≡ fault = cc in (Edit fault, ap (λ f. Err (Edit f)) it, is)
    ] (refuses (is_no_want fault text is))

-- a presence is refused
pub presence_refused : (schemas : WorldSchemas EditFault) (joiner : model.Joiner) (code : Joiner) (d : Data) (fault : EditFault) (text : List ℕ)
    → ((fault ≡ edit_fault.OutOfMemory → ⊥) → done_unless (refusal schemas joiner.state d) ≡ Err fault) → edit_fault_text fault ≡ Some text
    → Answers schemas (on_presence schemas d joiner) (Err text) code
presence_refused schemas joiner code d fault text refuses is =
    let state : ClientState = record joiner.state { client = with_presence d joiner.state.client } in
    let made : Acted = record { joiner = record joiner { state = state }; lines = [] } in
    elim (refusal schemas joiner.state d) as (λ o. done_unless o ≡ Err fault → Answers schemas (option_map_or (λ fault. Err (Edit fault)) o (Ok made)) (Err text) code) [
      | None ↦ λ same. absurd (cc)
      | Some other ↦ λ same. let it : other ≡ fault = cc in (Edit fault, ap (λ f. Err (Edit f)) it, is)
    ] (refuses (is_no_want fault text is))

-- a bail finds no mark
pub bail_refused : (schemas : WorldSchemas EditFault) (joiner : model.Joiner) (code : Joiner) (done : Result (Unit {0}) BailFault) (state : ClientState) (text : List ℕ)
    → done ≡ Err bail.NoMark → step_fault_text NoMark ≡ Some text → Answers schemas (bail_with done state joiner) (Err text) code
bail_refused schemas joiner code done state text refuses is = (NoMark, ap (λ o. bail_with o state joiner) refuses, is)

-- a client that has asked, over a store that nobody watches
pub begun_stands : (schemas : WorldSchemas EditFault) (version : ℕ) (before peer : Peer)
    → peer_of.Stands schemas (record { base = []; client = asking 0 (new_client version) }) peer → store_of peer ≡ store_of before → watched before ≡ [] → IsClosed before
    → Stands schemas (new_joiner version) (record { peer = peer; assembler = empty LONGEST_REPLY; is_lost = false })
begun_stands schemas version before peer stands same none closed =
    let unwatched : watched peer ≡ [] = ap store.watches same ∙ none in
    record {
      peer = stands;
      watched = subst (λ slots. Stand slots []) (sym unwatched) (λ number. refl);
      closed = ap store.begun same ∙ closed;
      waiting = refl;
      lost = refl;
    }
