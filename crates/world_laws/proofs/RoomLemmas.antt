-- What a message, a leave and a drain do to a room, case by case; no session enters by them.
use Rattle.std.proofs.Common.{◌≡◌, ℕ, suc, ◌-◌, ◌<◌, nat_lt, nat_le, Bool, true, false, ◌||◌, cond, List, ◌∷◌, length, slice_get, Option, Some, None, Ok, Err, Result, refl, sym, ap, subst, ◌∙◌, arith}
use Rattle.std.specs.Option.{option_map_or}
use Rattle.std.proofs.lemmas.Bool.Decides.{nat_tests}
use Rattle.room_model.specs.Schemas.{Schemas, Plan}
use Rattle.room_model.specs.Accepting.{Push, is_taken}
use Rattle.room_model.specs.Closing.{push_of}
use Rattle.room_model.specs.Reachable.{is_over}
use Rattle.room_model.specs.Rooms.{Phase, new, asked, live, ended, gone, Session, Room, is_ended, has_left, with_session, session_at, unless_left, is_present, removal, close, end_slow, after_entry, after_close, refuse, Replied, Ask, protocol_fault, after_plan, after_connect, after_push, after_unended, after_message_in, after_message, leave, after_leave, Notice, snapshot_at, updates_between, pong, end, Given, pong_or, next_in, next_for}
use Rattle.room_model.specs.declared.limits.TheConstants.{MOST_PINGS}
use Rattle.room_model.proofs.CallLemmas.{chained, Moves, stays, asks, closes, Goes, member_of, pushed_by, closed, slow_ended}
use Rattle.migrate_seq.specs.Versions.{Versions}
use Rattle.sync_msgs.specs.declared.client_message.ClientMessage.{ClientMessage}
use Rattle.sync_msgs.specs.declared.client_message.ClientMessage.TheVariants as message
use Rattle.sync_msgs.specs.declared.end_reason.EndReason.{EndReason}
use Rattle.sync_msgs.specs.declared.end_reason.EndReason.TheVariants.{RoomFull, InvalidRecord}
use Rattle.room_model.specs.declared.handled.Handled.TheVariants.{Taken}
use Rattle.rooms_val.proofs.Truths.{neither, mapped}

-- the session of a number is there, and hasn't left
pub record IsThere (room : Room) (n : ℕ) (s : Session) : Type 0 where
  pub at : slice_get room.sessions n ≡ Some s
  pub stays : has_left s.phase ≡ false

pub there : (room : Room) (n : ℕ) (s : Session) → session_at n room ≡ Some s → IsThere room n s
there room n s is =
    let h = chained unless_left (slice_get room.sessions n) s is in
    elim (has_left h.0.phase) as (λ b. has_left h.0.phase ≡ b → cond b None (Some h.0) ≡ Some s → IsThere room n s) [
      | true ↦ λ left same. absurd (cc)
      | false ↦ λ left same. let it : h.0 ≡ s = cc in record { at = h.1 ∙ ap Some it; stays = subst (λ t. has_left t.phase ≡ false) it left }
    ] refl h.2

-- what a message of a session makes of the room
pub data Receives (schemas : Schemas) (room : Room) (n : ℕ) (s : Session) (said : ClientMessage) : Room → Type 0 where
  ignores : is_over s.phase ≡ true → Receives schemas room n s said room
  asks_now : (request : List ℕ) (reached : _) (protocol : _) (versions : Versions) (plan : Plan) → said ≡ message.Connect request reached protocol versions → s.phase ≡ new
      → schemas.plan_for versions ≡ Ok plan → Receives schemas room n s said (with_session n (record s { phase = asked request reached plan }) room)
  pings : (count : ℕ) → said ≡ message.Ping → is_over s.phase ≡ false → Receives schemas room n s said (with_session n (record s { pings = count }) room)
  refuses : (reason : EndReason) → is_over s.phase ≡ false → Receives schemas room n s said (after_close n s (ended reason false) room)
  takes : (sent : ℕ) (plan : Plan) (push : Push) → push_of said ≡ Some push → s.phase ≡ live sent plan → is_taken schemas (member_of n s plan) push ≡ true
      → Receives schemas room n s said (after_entry (pushed_by schemas room n s plan push) room)

module _ (schemas : Schemas) (room : Room) (n : ℕ) (s : Session) where
  plans : (said : ClientMessage) (ask : Ask) (planned : Result Plan EndReason) → said ≡ message.Connect ask.request ask.reached ask.protocol ask.versions
      → schemas.plan_for ask.versions ≡ planned → s.phase ≡ new → Receives schemas room n s said (after_plan n s ask room planned).room
  plans said ask (Ok plan) says planned is = asks_now ask.request ask.reached ask.protocol ask.versions plan says is planned
  plans said ask (Err reason) says planned is = refuses reason (ap is_over is)

  connects : (said : ClientMessage) (ask : Ask) (phase : Phase) → said ≡ message.Connect ask.request ask.reached ask.protocol ask.versions
      → s.phase ≡ phase → is_over s.phase ≡ false → Receives schemas room n s said (after_connect schemas n s ask room phase).room
  connects said ask new says is here = elim (protocol_fault ask.protocol) as (λ o. Receives schemas room n s said (option_map_or (λ reason. refuse n s reason room) o (after_plan n s ask room (schemas.plan_for ask.versions))).room) [
    | None ↦ plans said ask (schemas.plan_for ask.versions) says refl is
    | Some reason ↦ refuses reason here
  ]
  connects said ask (asked request reached plan) says is here = refuses _ here
  connects said ask (live sent plan) says is here = refuses _ here
  connects said ask (ended reason told) says is here = refuses _ here
  connects said ask gone says is here = refuses _ here

  pushes_in : (said : ClientMessage) (push : Push) (phase : Phase) → push_of said ≡ Some push → s.phase ≡ phase → is_over s.phase ≡ false
      → Receives schemas room n s said (after_push schemas n s push room phase).room
  pushes_in said push new says is here = refuses _ here
  pushes_in said push (asked request reached plan) says is here = refuses _ here
  pushes_in said push (live sent plan) says is here =
      let ok : Replied = record { reply = Taken; room = after_entry (pushed_by schemas room n s plan push) room } in
      elim (nat_le room.last (length room.history)) as (λ b. Receives schemas room n s said (cond b (refuse n s RoomFull room) (cond (is_taken schemas (member_of n s plan) push) ok (refuse n s InvalidRecord room))).room) [
        | true ↦ refuses RoomFull here
        | false ↦ elim (is_taken schemas (member_of n s plan) push) as (λ b. is_taken schemas (member_of n s plan) push ≡ b → Receives schemas room n s said (cond b ok (refuse n s InvalidRecord room)).room) [
          | true ↦ λ taken. takes sent plan push says is taken
          | false ↦ λ taken. refuses InvalidRecord here
        ] refl
      ]
  pushes_in said push (ended reason told) says is here = refuses _ here
  pushes_in said push gone says is here = refuses _ here

  unended : (said : ClientMessage) → is_over s.phase ≡ false → Receives schemas room n s said (after_unended schemas n s room said).room
  unended (message.Connect request reached protocol versions) here =
      connects _ (record { request = request; reached = reached; protocol = protocol; versions = versions }) s.phase refl refl here
  unended (message.Push client_clock diff presence) here = pushes_in _ _ s.phase refl refl here
  unended message.Ping here = pings (cond (nat_lt s.pings MOST_PINGS) (suc s.pings) s.pings) refl here

  received_in : (said : ClientMessage) (phase : Phase) → s.phase ≡ phase → has_left s.phase ≡ false → Receives schemas room n s said (after_message_in schemas n s room said phase).room
  received_in said new is here = unended said (ap is_over is)
  received_in said (asked request reached plan) is here = unended said (ap is_over is)
  received_in said (live sent plan) is here = unended said (ap is_over is)
  received_in said (ended reason told) is here = ignores (ap is_over is)
  received_in said gone is here = absurd (let h : true ≡ false = sym (ap has_left is) ∙ here in cc)

pub message_receives : (schemas : Schemas) (room : Room) (n : ℕ) (said : ClientMessage) (replied : Replied) → after_message schemas room n said ≡ Some replied
    → (s : Session) × IsThere room n s × Receives schemas room n s said replied.room
message_receives schemas room n said replied is =
    let h = mapped _ _ replied is in
    let at = there room n h.0 h.1 in
    (h.0, at, subst (λ r. Receives schemas room n h.0 said r.room) h.2 (received_in schemas room n h.0 said h.0.phase refl at.stays))

-- what a leave of a session makes of the room
pub data Leaves (room : Room) (n : ℕ) (s : Session) : Room → Type 0 where
  leaves_ended : is_over s.phase ≡ true → Leaves room n s (with_session n (record s { phase = gone }) room)
  leaves_open : is_over s.phase ≡ false → Leaves room n s (after_close n s gone room)

left_in : (room : Room) (n : ℕ) (s : Session) → has_left s.phase ≡ false → Leaves room n s (leave n s room)
left_in room n s here =
    elim (is_ended s.phase) as (λ b. is_ended s.phase ≡ b → Leaves room n s (cond b (with_session n (record s { phase = gone }) room) (after_close n s gone room))) [
      | true ↦ λ is. leaves_ended (ap (λ b. b || has_left s.phase) is)
      | false ↦ λ is. leaves_open (neither (is_ended s.phase) (has_left s.phase) is here)
    ] refl

pub leave_leaves : (room : Room) (n : ℕ) (after : Room) → after_leave room n ≡ Some after → (s : Session) × IsThere room n s × Leaves room n s after
leave_leaves room n after is =
    let h = mapped _ _ after is in
    let at = there room n h.0 h.1 in
    (h.0, at, subst (λ r. Leaves room n h.0 r) h.2 (left_in room n h.0 at.stays))

-- what a session is given
pub data Gives (room : Room) (n : ℕ) (s : Session) : Notice → Session → Type 0 where
  tells_end : (reason : EndReason) → s.phase ≡ ended reason false → Gives room n s (end reason) (record s { phase = ended reason true })
  answers : (request : List ℕ) (reached : _) (plan : Plan) → s.phase ≡ asked request reached plan
      → Gives room n s (snapshot_at (length room.history)) (record s { phase = live (length room.history) plan })
  pongs : 0 < s.pings → Gives room n s pong (record s { pings = s.pings - 1 })
  tells : (sent : ℕ) (plan : Plan) → s.phase ≡ live sent plan → sent < length room.history
      → Gives room n s (updates_between sent (length room.history)) (record s { phase = live (length room.history) plan })

module _ (schemas : Schemas) (room : Room) (n : ℕ) (s : Session) where
  abbrev IsGiven : Option Given → Type 0
  IsGiven None = Unit {0}
  IsGiven (Some given) = Gives room n s given.notice given.after

  given_if : (b : Bool) (given : Given) (o : Option Given) → (b ≡ true → IsGiven (Some given)) → IsGiven o → IsGiven (cond b (Some given) o)
  given_if true given o h k = h refl
  given_if false given o h k = k

  ponged : (o : Option Given) → IsGiven o → IsGiven (pong_or s o)
  ponged o h = given_if (nat_lt 0 s.pings) _ o (λ some. pongs (grind (arith, nat_tests))) h

  given_in : (phase : Phase) → s.phase ≡ phase → IsGiven (next_in schemas room n s phase)
  given_in new is = ponged None tt
  given_in (asked request reached plan) is = answers request reached plan is
  given_in (live sent plan) is = ponged _ (given_if (nat_lt sent (length room.history)) _ None (λ less. tells sent plan is (grind (arith, nat_tests))) tt)
  given_in (ended reason true) is = tt
  given_in (ended reason false) is = tells_end reason is
  given_in gone is = tt

pub drain_gives : (schemas : Schemas) (room : Room) (n : ℕ) (given : Given) → next_for schemas room n ≡ Some given
    → (s : Session) × IsThere room n s × Gives room n s given.notice given.after
drain_gives schemas room n given is =
    let h = chained (λ s. next_in schemas room n s s.phase) (session_at n room) given is in
    (h.0, there room n h.0 h.1, subst (IsGiven schemas room n h.0) h.2 (given_in schemas room n h.0 h.0.phase refl))

-- what holds of a room after a message and a leave, if a session that goes on, the end of a presence and an entry of a push keep it
module _ (P : Room → Type 0)
    (sets : (room : Room) (n : ℕ) (s t : Session) → slice_get room.sessions n ≡ Some s → Goes (length room.history) s t → P room → P (with_session n t room))
    (removes : (room : Room) (n : ℕ) → is_present n room ≡ true → P room → P (record room { history = removal n ∷ room.history })) where
  pub after_closed : (room : Room) (n : ℕ) (s : Session) (phase : Phase) → slice_get room.sessions n ≡ Some s → is_over phase ≡ true → P room → P (after_close n s phase room)
  after_closed room n s phase at over h =
      let after = close n s phase room in
      let now = closed P sets removes room n s phase at over h in
      elim (is_present n room) as (λ b. P (cond b (end_slow after) after)) [ true ↦ slow_ended P sets removes (length after.sessions) after now | false ↦ now ]

  pub leave_keeps : (room after : Room) (n : ℕ) → after_leave room n ≡ Some after → P room → P after
  leave_keeps room after n is h =
      let on = leave_leaves room n after is in
      elim on.2 as (λ after l. P after) [
        | leaves_ended over ↦ sets room n on.0 (record on.0 { phase = gone }) on.1.at (record { same = refl; moves = closes _ _ refl }) h
        | leaves_open here ↦ after_closed room n on.0 gone on.1.at refl h
      ]

  module _ (schemas : Schemas)
      (pushed : (room : Room) (n : ℕ) (s : Session) (sent : ℕ) (plan : Plan) (push : Push) → slice_get room.sessions n ≡ Some s → s.phase ≡ live sent plan
      → is_taken schemas (member_of n s plan) push ≡ true → P room → P (record room { history = pushed_by schemas room n s plan push ∷ room.history })) where
    pub message_keeps : (room : Room) (n : ℕ) (said : ClientMessage) (replied : Replied) → after_message schemas room n said ≡ Some replied → P room → P replied.room
    message_keeps room n said replied is h =
        let on = message_receives schemas room n said replied is in
        let s = on.0 in
        let at = on.1.at in
        elim on.2 as (λ after r. P after) [
          | ignores over ↦ h
          | asks_now request reached protocol versions plan says is planned ↦
              sets room n s (record s { phase = asked request reached plan }) at
              (record { same = refl; moves = subst (λ p. Moves (length room.history) p (asked request reached plan)) (sym is) (asks request reached plan) }) h
          | pings count says here ↦ sets room n s (record s { pings = count }) at (record { same = refl; moves = stays s.phase }) h
          | refuses reason here ↦ after_closed room n s (ended reason false) at refl h
          | takes sent plan push says is taken ↦
              let now : Room = record room { history = pushed_by schemas room n s plan push ∷ room.history } in
              slow_ended P sets removes (length now.sessions) now (pushed room n s sent plan push at is taken h)
        ]
