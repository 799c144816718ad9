-- How sessions go on by a message and by a leave: what keeps something that holds of a room.
use Rattle.std.proofs.Common.{◌≡◌, ◌⊎◌, inl, inr, ℕ, zero, suc, true, false, cond, List, ◌∷◌, length, slice_get, Some, None, Ok, refl, sym, subst}
use Rattle.std.specs.Option.{option_map_or}
use Rattle.room_model.specs.Schemas.{Schemas, Plan}
use Rattle.room_model.specs.Accepting.{Push, is_taken}
use Rattle.room_model.specs.Closing.{push_of}
use Rattle.room_model.specs.Reachable.{is_over}
use Rattle.room_model.specs.Rooms.{Phase, new, asked, live, ended, gone, Session, Room, with_session, is_present, removal, close, close_slow, first_slow, without_slow, end_slow, after_close, Replied, after_message, after_leave}
use Rattle.room_model.proofs.CallLemmas.{member_of, pushed_by}
use Rattle.room_model.proofs.ClockLemmas.{is_live, slow_at, slow_closing}
use Rattle.migrate_seq.specs.Versions.{Versions}
use Rattle.sync_msgs.specs.declared.client_message.ClientMessage.{ClientMessage}
use Rattle.sync_msgs.specs.declared.client_message.ClientMessage.TheVariants as message
use Rattle.sync_msgs.specs.declared.end_reason.EndReason.TheVariants.{Slow}
use Rattle.world_laws.proofs.RoomLemmas.{ignores, asks_now, pings, refuses, takes, message_receives, leaves_ended, leaves_open, leave_leaves}
use Rattle.room_model.proofs.ClosingLemmas.{live_open}

-- a last phase into which a session comes: it is ended and not told so, or has left
pub data IsLast : Phase → Type 0 where
  untold : (reason : _) → IsLast (ended reason false)
  left : IsLast gone

-- who is closed by what happens to a session: itself, or a live one that is too slow
module _ (P : Room → Type 0) (own : ℕ)
    (closes : (room : Room) (n : ℕ) (s : Session) (phase : Phase) → slice_get room.sessions n ≡ Some s → (n ≡ own) ⊎ (is_live s.phase ≡ true) → is_over s.phase ≡ false → IsLast phase → P room
    → P (with_session n (record s { phase = phase }) room))
    (removes : (room : Room) (n : ℕ) → is_present n room ≡ true → P room → P (record room { history = removal n ∷ room.history })) where
  closed : (room : Room) (n : ℕ) (s : Session) (phase : Phase) → slice_get room.sessions n ≡ Some s → (n ≡ own) ⊎ (is_live s.phase ≡ true) → is_over s.phase ≡ false → IsLast phase → P room → P (close n s phase room)
  closed room n s phase at who here over h =
      let t : Session = record s { phase = phase } in
      let after : Room = record room { history = removal n ∷ room.history } in
      elim (is_present n room) as (λ b. is_present n room ≡ b → P (with_session n t (cond b after room))) [
        | true ↦ λ is. closes after n s phase at who here over (removes room n is h)
        | false ↦ λ is. closes room n s phase at who here over h
      ] refl

  slow_closed : (room : Room) (n : ℕ) → first_slow room ≡ Some n → P room → P (close_slow room n)
  slow_closed room n is h =
      let first = slow_at room n is in
      subst P (sym (slow_closing room n first.0 first.1)) (closed room n first.0 (ended Slow false) first.1 (inr first.2) (live_open first.0.phase first.2) (untold Slow) h)

  pub slow_ended : (k : ℕ) (room : Room) → P room → P (without_slow k room)
  slow_ended zero room h = h
  slow_ended (suc k) room h = elim (first_slow room) as (λ o. first_slow room ≡ o → P (option_map_or (λ n. without_slow k (close_slow room n)) o room)) [
    | None ↦ λ is. h
    | Some n ↦ λ is. slow_ended k (close_slow room n) (slow_closed room n is h)
  ] refl

  pub after_closed : (room : Room) (n : ℕ) (s : Session) (phase : Phase) → n ≡ own → slice_get room.sessions n ≡ Some s → is_over s.phase ≡ false → IsLast phase → P room → P (after_close n s phase room)
  after_closed room n s phase mine at here over h =
      let after = close n s phase room in
      let now = closed room n s phase at (inl mine) here over h in
      elim (is_present n room) as (λ b. P (cond b (end_slow after) after)) [ true ↦ slow_ended (length after.sessions) after now | false ↦ now ]

  -- what a leave keeps
  pub leave_turns : (room after : Room) (n : ℕ) → n ≡ own → after_leave room n ≡ Some after
      → ((s : Session) → slice_get room.sessions n ≡ Some s → is_over s.phase ≡ true → P room → P (with_session n (record s { phase = gone }) room)) → P room → P after
  leave_turns room after n mine is leaves h =
      let on = leave_leaves room n after is in
      elim on.2 as (λ after l. P after) [
        | leaves_ended over ↦ leaves on.0 on.1.at over h
        | leaves_open here ↦ after_closed room n on.0 gone mine on.1.at here left h
      ]

  -- what a message keeps
  module _ (schemas : Schemas) (room : Room) (n : ℕ) (mine : n ≡ own) (said : ClientMessage)
      (asks : (s : Session) (request : List ℕ) (reached : _) (protocol : _) (versions : Versions) (plan : Plan) → slice_get room.sessions n ≡ Some s
      → said ≡ message.Connect request reached protocol versions → s.phase ≡ new → schemas.plan_for versions ≡ Ok plan → P room
      → P (with_session n (record s { phase = asked request reached plan }) room))
      (pinged : (s : Session) (count : ℕ) → slice_get room.sessions n ≡ Some s → said ≡ message.Ping → P room → P (with_session n (record s { pings = count }) room))
      (pushed : (s : Session) (sent : ℕ) (plan : Plan) (push : Push) → slice_get room.sessions n ≡ Some s → push_of said ≡ Some push → s.phase ≡ live sent plan
      → is_taken schemas (member_of n s plan) push ≡ true → P room → P (record room { history = pushed_by schemas room n s plan push ∷ room.history })) where
    pub message_turns : (replied : Replied) → after_message schemas room n said ≡ Some replied → P room → P replied.room
    message_turns replied is h =
        let on = message_receives schemas room n said replied is in
        let s = on.0 in
        let at = on.1.at in
        elim on.2 as (λ after r. P after) [
          | ignores over ↦ h
          | asks_now request reached protocol versions plan says is planned ↦ asks s request reached protocol versions plan at says is planned h
          | pings count says here ↦ pinged s count at says h
          | refuses reason here ↦ after_closed room n s (ended reason false) mine at here (untold reason) h
          | takes sent plan push says is taken ↦
              let now : Room = record room { history = pushed_by schemas room n s plan push ∷ room.history } in
              slow_ended (length now.sessions) now (pushed s sent plan push at says is taken h)
        ]
