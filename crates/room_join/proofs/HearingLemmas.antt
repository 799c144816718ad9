-- What a client makes of what it waited for.
use Rattle.std.proofs.Common.{◌≡◌, ℕ, true, List, [], Option, Some, None, Result, Ok, Err, IsErr, refl, ap, subst, ◌∙◌}
use Rattle.std.specs.Global.{Vec}
use Rattle.std.specs.Option.{option_map_or}
use Rattle.client_link.specs.Waiting.{Waits, Ends}
use Rattle.client_link.specs.declared.waiting.Heard.{Heard}
use Rattle.client_link.specs.declared.waiting.Heard.TheVariants as heard
use Rattle.room_link.specs.Exchange.{Exchange}
use Rattle.room_link.specs.declared.passing.Stop.{Stop}
use Rattle.room_model.specs.Schemas.{WorldSchemas}
use Rattle.side_effects.specs.declared.fault.EditFault.{EditFault}
use Rattle.sync_client.specs.Faults.{take_fault}
use Rattle.sync_client.specs.declared.fault.TakeFault.{TakeFault}
use Rattle.sync_client.specs.declared.fault.TakeFault.TheVariants as fault_is
use Rattle.sync_msgs.specs.declared.server_message.ServerMessage.{ServerMessage}
use Rattle.sync_peer.specs.Standing as peer_of
use Rattle.sync_peer.specs.Viewing.{store_of, WatchAlike}
use Rattle.sync_peer.specs.declared.peer.Peer.{Peer}
use Rattle.wire_text.specs.Feeding.{Assembly}
use Rattle.room_join.specs.Hearing.{Heeds, Waited, SaysNothing}
use Rattle.room_join.specs.Joiners as model
use Rattle.room_join.specs.Joiners.{Acted, with_message, with_end}
use Rattle.room_join.specs.Standing.{Stands}
use Rattle.room_join.specs.Texts.{take_fault_text}
use Rattle.room_join.specs.declared.join_line.JoinLine.{JoinLine}
use Rattle.room_join.specs.declared.joiner.Joiner.{Joiner}
use Rattle.room_join.proofs.AnsweringLemmas.{changed, watch_same}

-- a fault of taking that has a text is no want of memory
no_want : (fault : TakeFault) (text : List ℕ) → take_fault_text fault ≡ Some text → fault ≡ fault_is.OutOfMemory → ⊥
no_want fault text is want = absurd (let none : take_fault_text fault_is.OutOfMemory ≡ Some text = subst (λ f. take_fault_text f ≡ Some text) want is in cc)

-- the answer to a message that a client doesn't take for this fault, or takes
abbrev pub answer_by : Option TakeFault → Result (Unit {0}) TakeFault
answer_by o = option_map_or (λ fault. Err fault) o (Ok tt)

module _ (schemas : WorldSchemas EditFault) (joiner : model.Joiner) (code : Joiner) (stands : Stands schemas joiner code) where
  -- a message was taken
  pub message_taken : (message : ServerMessage) (after : Peer) (lines : Vec JoinLine)
      → answer_by (take_fault joiner.state.client message) ≡ Ok tt
      → peer_of.Stands schemas (with_message schemas message joiner).state after → WatchAlike (store_of code.peer) (store_of after) → lines.items ≡ []
      → Heeds schemas joiner (heard.Message message) (Ok lines) (record code { peer = after })
  message_taken message after lines fine is alike none =
      let made : Acted = record { joiner = with_message schemas message joiner; lines = [] } in
      elim (take_fault joiner.state.client message) as (λ o. answer_by o ≡ Ok tt
      → (one : Acted) × (option_map_or (λ fault. Err (take_fault_text fault)) o (Ok made) ≡ Ok one) × (lines.items ≡ one.lines) × Stands schemas one.joiner (record code { peer = after })) [
        | None ↦ λ same. (made, refl, none, changed schemas joiner code stands after (with_message schemas message joiner).state is alike)
        | Some fault ↦ λ same. absurd (cc)
      ] fine

  -- a message isn't taken
  pub message_refused : (message : ServerMessage) (fault : TakeFault) (text : List ℕ) (after : Joiner)
      → ((fault ≡ fault_is.OutOfMemory → ⊥) → answer_by (take_fault joiner.state.client message) ≡ Err fault) → take_fault_text fault ≡ Some text
      → Heeds schemas joiner (heard.Message message) (Err text) after
  message_refused message fault text after refuses is =
      let made : Acted = record { joiner = with_message schemas message joiner; lines = [] } in
      elim (take_fault joiner.state.client message) as (λ o. answer_by o ≡ Err fault
      → option_map_or (λ fault. Err (take_fault_text fault)) o (Ok made) ≡ Err (Some text)) [
        | None ↦ λ same. absurd (cc)
        | Some other ↦ λ same. let it : other ≡ fault = cc in ap (λ f. Err (take_fault_text f)) it ∙ ap (λ o. Err o) is
      ] (refuses (no_want fault text is))

  -- the link has ended
  pub end_heard : (after : Peer) → peer_of.Stands schemas (with_end schemas joiner).state after → store_of after ≡ store_of code.peer
      → Stands schemas (with_end schemas joiner) (record code { peer = after; is_lost = true })
  end_heard after is same =
      let kept = changed schemas joiner code stands after (with_end schemas joiner).state is (watch_same (store_of code.peer) (store_of after) same) in
      record { peer = kept.peer; watched = kept.watched; closed = kept.closed; waiting = kept.waiting; lost = refl }

  -- what came of a message waits
  pub still_waits : (now : Assembly) → Stands schemas (record joiner { waiting = now }) (record code { assembler = now })
  still_waits now = record { peer = stands.peer; watched = stands.watched; closed = stands.closed; waiting = refl; lost = stands.lost }

-- what was waited for, and what was made of it
pub waited_for : (schemas : WorldSchemas EditFault) (joiner : model.Joiner) (before now : Assembly) (said : Heard) (delivery : Result (Vec JoinLine) (List ℕ)) (code : Joiner) (x y : Exchange)
    → before ≡ joiner.waiting → Heeds schemas (record joiner { waiting = now }) said delivery code → Ends before (Ok said) now x y
    → Waited schemas joiner (Ok delivery) code x y
waited_for schemas joiner before now said delivery code x y same heeds ends = (said, now, subst (λ b. Waits b x.left said now y.left) same ends.0, heeds)

pub says_nothing : (before now : Assembly) (result : Result Heard Stop) (x y : Exchange) → Ends before result now x y → SaysNothing x y
says_nothing before now (Ok said) x y ends = ends.1
says_nothing before now (Err stop) x y ends = ends

pub stopped_waiting : (schemas : WorldSchemas EditFault) (joiner : model.Joiner) (before now : Assembly) (heard : Result Heard Stop) (result : Result (Result (Vec JoinLine) (List ℕ)) Stop) (code : Joiner) (x y : Exchange)
    → IsErr result → Ends before heard now x y → Waited schemas joiner result code x y
stopped_waiting schemas joiner before now heard (Ok delivery) code x y is ends = absurd (cc)
stopped_waiting schemas joiner before now heard (Err stop) code x y is ends = tt
