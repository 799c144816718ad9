-- What a call of a room needs, and what a message of a session makes of the room.
use Rattle.std.proofs.Common.{◌≡◌, ℕ, suc, ◌≤◌, nat_lt, nat_le, Bool, true, false, cond, List, length, slice_get, Some, None, Ok, Err, Result, refl, ap, subst, ◌∙◌, arith}
use Rattle.std.specs.Option.{option_map_or}
use Rattle.std.proofs.lemmas.Option.{same_Some}
use Rattle.migrate_seq.specs.Versions.{Versions}
use Rattle.room_model.specs.Schemas.{Schemas, Plan}
use Rattle.room_model.specs.Accepting.{Push, is_taken}
use Rattle.room_model.specs.Closing.{push_of}
use Rattle.room_model.specs.Reachable.{is_over}
use Rattle.room_model.specs.Rooms.{Phase, new, asked, live, ended, gone, Session, Room, has_left, with_session, session_at, unless_left, after_entry, after_close, refuse, Replied, Ask, protocol_fault, after_plan, after_connect, after_push, after_unended, after_message_in, after_message}
use Rattle.room_model.specs.declared.handled.Handled.TheVariants.{Taken}
use Rattle.room_model.specs.declared.limits.TheConstants.{MOST_PINGS}
use Rattle.room_model.proofs.CallLemmas.{chained, member_of, pushed_by}
use Rattle.sync_msgs.specs.declared.client_message.ClientMessage.{ClientMessage}
use Rattle.sync_msgs.specs.declared.client_message.ClientMessage.TheVariants as message
use Rattle.sync_msgs.specs.declared.end_reason.EndReason.{EndReason}
use Rattle.sync_msgs.specs.declared.end_reason.EndReason.TheVariants.{RoomFull, InvalidRecord}
use Rattle.rooms_val.proofs.Truths.{mapped}

-- the session of a number is there
pub record IsThere (room : Room) (n : ℕ) (s : Session) : Type 0 where
  pub at : slice_get room.sessions n ≡ Some s
  pub stays : has_left s.phase ≡ false

pub there : (room : Room) (n : ℕ) (s : Session) → session_at n room ≡ Some s → IsThere room n s
there room n s is =
    let h = chained unless_left (slice_get room.sessions n) s is in
    elim (has_left h.0.phase) as (λ b. has_left h.0.phase ≡ b → cond b None (Some h.0) ≡ Some s → IsThere room n s) [
      | true ↦ λ left same. absurd (cc)
      | false ↦ λ left same. let it : h.0 ≡ s = same_Some h.0 s same in record { at = h.1 ∙ ap Some it; stays = subst (λ t. has_left t.phase ≡ false) it left }
    ] refl h.2

one_more : (b : Bool) (k : ℕ) → cond b (suc k) k ≤ suc k
one_more true k = omega arith
one_more false k = omega arith

-- what a message of a session makes of the room
pub data Receives (schemas : Schemas) (room : Room) (m : ℕ) (s : Session) (said : ClientMessage) : Room → Type 0 where
  ignores : is_over s.phase ≡ true → Receives schemas room m s said room
  asks_now : (request : List ℕ) (reached : _) (protocol : _) (versions : Versions) (plan : Plan) → said ≡ message.Connect request reached protocol versions → s.phase ≡ new
      → schemas.plan_for versions ≡ Ok plan → Receives schemas room m s said (with_session m (record s { phase = asked request reached plan }) room)
  pings_now : (count : ℕ) → count ≤ suc s.pings → said ≡ message.Ping → Receives schemas room m s said (with_session m (record s { pings = count }) room)
  refuses : (reason : EndReason) → Receives schemas room m s said (after_close m s (ended reason false) room)
  takes_now : (sent : ℕ) (plan : Plan) (push : Push) → push_of said ≡ Some push → s.phase ≡ live sent plan → is_taken schemas (member_of m s plan) push ≡ true
      → Receives schemas room m s said (after_entry (pushed_by schemas room m s plan push) room)

module _ (schemas : Schemas) (room : Room) (m : ℕ) where
  module _ (s : Session) where
    plans : (said : ClientMessage) (ask : Ask) (planned : Result Plan EndReason) → said ≡ message.Connect ask.request ask.reached ask.protocol ask.versions
        → schemas.plan_for ask.versions ≡ planned → s.phase ≡ new → Receives schemas room m s said (after_plan m s ask room planned).room
    plans said ask (Ok plan) says planned is = asks_now ask.request ask.reached ask.protocol ask.versions plan says is planned
    plans said ask (Err reason) says planned is = refuses reason

    connects : (said : ClientMessage) (ask : Ask) (phase : Phase) → said ≡ message.Connect ask.request ask.reached ask.protocol ask.versions → s.phase ≡ phase
        → Receives schemas room m s said (after_connect schemas m s ask room phase).room
    connects said ask new says is = elim (protocol_fault ask.protocol) as (λ o. Receives schemas room m s said (option_map_or (λ reason. refuse m s reason room) o (after_plan m s ask room (schemas.plan_for ask.versions))).room) [
      | None ↦ plans said ask (schemas.plan_for ask.versions) says refl is
      | Some reason ↦ refuses reason
    ]
    connects said ask (asked request reached plan) says is = refuses InvalidRecord
    connects said ask (live sent plan) says is = refuses InvalidRecord
    connects said ask (ended reason told) says is = refuses InvalidRecord
    connects said ask gone says is = refuses InvalidRecord

    pushes_in : (said : ClientMessage) (push : Push) (phase : Phase) → push_of said ≡ Some push → s.phase ≡ phase → Receives schemas room m s said (after_push schemas m s push room phase).room
    pushes_in said push new says is = refuses InvalidRecord
    pushes_in said push (asked request reached plan) says is = refuses InvalidRecord
    pushes_in said push (live sent plan) says is =
        let ok : Replied = record { reply = Taken; room = after_entry (pushed_by schemas room m s plan push) room } in
        elim (nat_le room.last (length room.history)) as (λ b. Receives schemas room m s said (cond b (refuse m s RoomFull room) (cond (is_taken schemas (member_of m s plan) push) ok (refuse m s InvalidRecord room))).room) [
          | true ↦ refuses RoomFull
          | false ↦ elim (is_taken schemas (member_of m s plan) push) as (λ b. is_taken schemas (member_of m s plan) push ≡ b → Receives schemas room m s said (cond b ok (refuse m s InvalidRecord room)).room) [
            | true ↦ λ taken. takes_now sent plan push says is taken
            | false ↦ λ taken. refuses InvalidRecord
          ] refl
        ]
    pushes_in said push (ended reason told) says is = refuses InvalidRecord
    pushes_in said push gone says is = refuses InvalidRecord

    unended : (said : ClientMessage) → Receives schemas room m s said (after_unended schemas m s room said).room
    unended (message.Connect request reached protocol versions) = connects _ (record { request = request; reached = reached; protocol = protocol; versions = versions }) s.phase refl refl
    unended (message.Push client_clock diff presence) = pushes_in _ _ s.phase refl refl
    unended message.Ping = pings_now (cond (nat_lt s.pings MOST_PINGS) (suc s.pings) s.pings) (one_more (nat_lt s.pings MOST_PINGS) s.pings) refl

    received_in : (said : ClientMessage) (phase : Phase) → s.phase ≡ phase → Receives schemas room m s said (after_message_in schemas m s room said phase).room
    received_in said new is = unended said
    received_in said (asked request reached plan) is = unended said
    received_in said (live sent plan) is = unended said
    received_in said (ended reason told) is = ignores (ap is_over is)
    received_in said gone is = unended said

  pub message_receives : (said : ClientMessage) (replied : Replied) → after_message schemas room m said ≡ Some replied
      → (s : Session) × IsThere room m s × Receives schemas room m s said replied.room
  message_receives said replied is =
      let h = mapped (λ session. after_message_in schemas m session room said session.phase) (session_at m room) replied is in
      (h.0, there room m h.0 h.1, subst (λ r. Receives schemas room m h.0 said r.room) h.2 (received_in h.0 said h.0.phase refl))
