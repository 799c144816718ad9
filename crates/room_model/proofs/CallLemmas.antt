-- What each call does to a room, as one of five steps; and what every step keeps.
use Rattle.std.proofs.Common.{◌≡◌, ◌⊎◌, inl, inr, ℕ, zero, suc, ◌-◌, nat_lt, nat_le, Bool, true, false, ◌||◌, cond, List, [], ◌∷◌, ◌++◌, length, slice_get, slice_set, Option, Some, None, option_and_then, Ok, Err, Result, refl, sym, ap, subst, ◌∙◌}
use Rattle.std.specs.Option.{option_map_or}
use Rattle.std.proofs.lemmas.Option.{same_Some}
use Rattle.rooms_val.proofs.Truths.{neither, mapped}
use Rattle.rooms_val.specs.Maps.{AreRising}
use Rattle.room_model.specs.Schemas.{Schemas, Plan, Member}
use Rattle.room_model.specs.Histories.{records_of}
use Rattle.room_model.specs.Accepting.{Push, is_taken, entry_of}
use Rattle.room_model.specs.Messages.{updates}
use Rattle.room_model.specs.Rooms.{Phase, new, asked, live, ended, gone, Session, Room, is_ended, has_left, new_room, is_full, after_enter, enter, with_session, session_at, unless_left, is_present, removal, close, close_slow, first_slow, without_slow, end_slow, after_entry, after_close, refuse, Replied, Ask, protocol_fault, after_plan, after_connect, after_push, after_unended, after_message_in, after_message, leave, after_leave, Given, pong, updates_between, pong_or, next_in, next_for, after_drain}
use Rattle.room_model.specs.Closing.{push_of}
use Rattle.room_model.specs.Reachable.{IsRising, is_over, IsBeginning, Reachable, begins, entered, received, drained, left}
use Rattle.room_model.specs.declared.handled.Handled.{Handled}
use Rattle.room_model.specs.declared.history.Entry.{Entry}
use Rattle.room_model.specs.declared.handled.Handled.TheVariants.{Taken, Entered, Pong, Ended}
use Rattle.sync_msgs.specs.declared.client_message.ClientMessage.{ClientMessage}
use Rattle.sync_msgs.specs.declared.client_message.ClientMessage.TheVariants as message
use Rattle.sync_msgs.specs.declared.end_reason.EndReason.{EndReason}
use Rattle.sync_msgs.specs.declared.out.Out.TheVariants.{Message}
use Rattle.sync_msgs.specs.declared.server_message.ServerMessage.TheVariants as reply
use Rattle.sync_msgs.specs.declared.end_reason.EndReason.TheVariants.{Slow, RoomFull, InvalidRecord}

module _ {X : Type 0} where
  -- after one of a list is set, each is that one or was there
  pub got-set : (xs : List X) (n k : ℕ) (y z : X) → slice_get (slice_set xs n y) k ≡ Some z → ((k ≡ n) × (z ≡ y)) ⊎ (slice_get xs k ≡ Some z)
  got-set [] n k y z is = inr is
  got-set (x ∷ xs) zero zero y z is = let same : y ≡ z = cc in inl (refl, sym same)
  got-set (x ∷ xs) zero (suc k) y z is = inr is
  got-set (x ∷ xs) (suc n) zero y z is = inr is
  got-set (x ∷ xs) (suc n) (suc k) y z is = elim (got-set xs n k y z is) [ inl same ↦ inl (ap suc same.0, same.1) | inr before ↦ inr before ]

  -- after one is added, each is that one or was there
  pub got-added : (xs : List X) (k : ℕ) (y z : X) → slice_get (xs ++ y ∷ []) k ≡ Some z → (z ≡ y) ⊎ (slice_get xs k ≡ Some z)
  got-added [] zero y z is = let same : y ≡ z = cc in inl (sym same)
  got-added [] (suc k) y z is = absurd (cc)
  got-added (x ∷ xs) zero y z is = inr is
  got-added (x ∷ xs) (suc k) y z is = got-added xs k y z is

pub chained : {X Y : Type 0} (f : X → Option Y) (o : Option X) (y : Y) → option_and_then f o ≡ Some y → (x : X) × (o ≡ Some x) × (f x ≡ Some y)
chained f None y is = absurd (cc)
chained f (Some x) y is = (x, refl, is)

-- how the phase of a session goes on at a clock
pub data Moves (clock : ℕ) : Phase → Phase → Type 0 where
  stays : (p : Phase) → Moves clock p p
  asks : (request : List ℕ) (reached : _) (plan : Plan) → Moves clock new (asked request reached plan)
  answered : (request : List ℕ) (reached : _) (plan : Plan) → Moves clock (asked request reached plan) (live clock plan)
  updated : (sent : ℕ) (plan : Plan) → Moves clock (live sent plan) (live clock plan)
  closes : (p q : Phase) → is_over q ≡ true → Moves clock p q

-- how a session goes on
pub record Goes (clock : ℕ) (s t : Session) : Type 0 where
  pub same : t.readonly ≡ s.readonly
  pub moves : Moves clock s.phase t.phase

-- the session of a number is there
there : (room : Room) (n : ℕ) (s : Session) → session_at n room ≡ Some s → (slice_get room.sessions n ≡ Some s) × (has_left s.phase ≡ false)
there room n s is =
    let h = chained unless_left (slice_get room.sessions n) s is in
    elim (has_left h.0.phase) as (λ b. has_left h.0.phase ≡ b → cond b None (Some h.0) ≡ Some s → (slice_get room.sessions n ≡ Some s) × (has_left s.phase ≡ false)) [
      | true ↦ λ left same. absurd (cc)
      | false ↦ λ left same. let it : h.0 ≡ s = cc in (h.1 ∙ ap Some it, subst (λ t. has_left t.phase ≡ false) it left)
    ] refl h.2

-- a session and its message, if that is a push that was taken
abbrev pub taken_by : ℕ → ClientMessage → Handled → Option (ℕ × ClientMessage)
taken_by n said Taken = Some (n, said)
taken_by n said other = None

-- a session as accepting knows it
abbrev pub member_of : ℕ → Session → Plan → Member
member_of n s plan = record { session = n; readonly = s.readonly; plan = plan }

module _ (schemas : Schemas) where
  -- the entry of a push of a session that has a plan
  abbrev pub pushed_by : Room → ℕ → Session → Plan → Push → Entry
  pushed_by room n s plan push = entry_of schemas (member_of n s plan) (records_of room.history) push

-- what a call does to a room; pushed is the session and its message, if that is a push that was taken
pub data Step (schemas : Schemas) (pushed : Option (ℕ × ClientMessage)) (room after : Room) : Type 0 where
  nothing : pushed ≡ None → after ≡ room → Step schemas pushed room after
  enters : (readonly : Bool) → pushed ≡ None → after ≡ after_enter readonly room → Step schemas pushed room after
  goes : (n : ℕ) (s t : Session) → pushed ≡ None → slice_get room.sessions n ≡ Some s → Goes (length room.history) s t
      → (is_over t.phase ≡ true → is_over s.phase ≡ true) → after ≡ with_session n t room → Step schemas pushed room after
  ends : (n : ℕ) (s : Session) (phase : Phase) → pushed ≡ None → slice_get room.sessions n ≡ Some s → is_over s.phase ≡ false
      → is_over phase ≡ true → after ≡ after_close n s phase room → Step schemas pushed room after
  pushes : (n : ℕ) (s : Session) (sent : ℕ) (plan : Plan) (said : ClientMessage) (push : Push) → pushed ≡ Some (n, said)
      → push_of said ≡ Some push → slice_get room.sessions n ≡ Some s → s.phase ≡ live sent plan
      → is_taken schemas (member_of n s plan) push ≡ true
      → after ≡ after_entry (pushed_by schemas room n s plan push) room → Step schemas pushed room after

module _ (schemas : Schemas) (room : Room) where
  module _ (n : ℕ) (s : Session) (at : slice_get room.sessions n ≡ Some s) where
    refused : (reason : EndReason) → is_over s.phase ≡ false → Step schemas None room (refuse n s reason room).room
    refused reason here = ends n s (ended reason false) refl at here refl refl

    -- the step that a reply to a message tells
    abbrev pub Follows : ClientMessage → Replied → Type 0
    Follows said replied = Step schemas (taken_by n said replied.reply) room replied.room

    asked_of : (said : ClientMessage) (ask : Ask) (planned : Result Plan EndReason) → s.phase ≡ new → Follows said (after_plan n s ask room planned)
    asked_of said ask (Ok plan) is =
        let t : Session = record s { phase = asked ask.request ask.reached plan } in
        goes n s t refl at (record { same = refl; moves = subst (λ p. Moves (length room.history) p t.phase) (sym is) (asks ask.request ask.reached plan) }) (λ over. absurd (cc)) refl
    asked_of said ask (Err reason) is = refused reason (ap is_over is)

    connects : (said : ClientMessage) (ask : Ask) (phase : Phase) → s.phase ≡ phase → is_over s.phase ≡ false → Follows said (after_connect schemas n s ask room phase)
    connects said ask new is here = elim (protocol_fault ask.protocol) as (λ o. Follows said (option_map_or (λ reason. refuse n s reason room) o (after_plan n s ask room (schemas.plan_for ask.versions)))) [
      | None ↦ asked_of said ask (schemas.plan_for ask.versions) is
      | Some reason ↦ refused reason here
    ]
    connects said ask (asked request reached plan) is here = refused _ here
    connects said ask (live sent plan) is here = refused _ here
    connects said ask (ended reason told) is here = refused _ here
    connects said ask gone is here = refused _ here

    pushes_in : (said : ClientMessage) (push : Push) (phase : Phase) → push_of said ≡ Some push → s.phase ≡ phase → is_over s.phase ≡ false → Follows said (after_push schemas n s push room phase)
    pushes_in said push new says is here = refused _ here
    pushes_in said push (asked request reached plan) says is here = refused _ here
    pushes_in said push (live sent plan) says is here =
        let member = member_of n s plan in
        let ok : Replied = record { reply = Taken; room = after_entry (pushed_by schemas room n s plan push) room } in
        elim (nat_le room.last (length room.history)) as (λ b. Follows said (cond b (refuse n s RoomFull room) (cond (is_taken schemas member push) ok (refuse n s InvalidRecord room)))) [
          | true ↦ refused _ here
          | false ↦ elim (is_taken schemas member push) as (λ b. is_taken schemas member push ≡ b → Follows said (cond b ok (refuse n s InvalidRecord room))) [
            | true ↦ λ taken. pushes n s sent plan said push refl says at is taken refl
            | false ↦ λ taken. refused _ here
          ] refl
        ]
    pushes_in said push (ended reason told) says is here = refused _ here
    pushes_in said push gone says is here = refused _ here

    unended : (said : ClientMessage) → is_over s.phase ≡ false → Follows said (after_unended schemas n s room said)
    unended (message.Connect request reached protocol versions) here =
        connects (message.Connect request reached protocol versions) (record { request = request; reached = reached; protocol = protocol; versions = versions }) s.phase refl here
    unended (message.Push client_clock diff presence) here = pushes_in (message.Push client_clock diff presence) _ s.phase refl refl here
    unended message.Ping here = goes n s _ refl at (record { same = refl; moves = stays s.phase }) (λ over. over) refl

    replied_in : (said : ClientMessage) (phase : Phase) → s.phase ≡ phase → has_left s.phase ≡ false → Follows said (after_message_in schemas n s room said phase)
    replied_in said new is here = unended said (ap is_over is)
    replied_in said (asked request reached plan) is here = unended said (ap is_over is)
    replied_in said (live sent plan) is here = unended said (ap is_over is)
    replied_in said (ended reason told) is here = nothing refl refl
    replied_in said gone is here = absurd (let h : true ≡ false = sym (ap has_left is) ∙ here in cc)

    -- how a session goes on that is given something, and that it isn't closed by that
    abbrev GoesTo : Option Given → Type 0
    GoesTo None = Unit {0}
    GoesTo (Some given) = Goes (length room.history) s given.after × (is_over given.after.phase ≡ true → is_over s.phase ≡ true)

    moved : (phase : Phase) → s.phase ≡ phase → (t : Session) → t.readonly ≡ s.readonly → Moves (length room.history) phase t.phase → Goes (length room.history) s t
    moved phase is t same moves = record { same = same; moves = subst (λ p. Moves (length room.history) p t.phase) (sym is) moves }

    given_if : (b : Bool) (given : Given) (o : Option Given) → GoesTo (Some given) → GoesTo o → GoesTo (cond b (Some given) o)
    given_if true given o h k = h
    given_if false given o h k = k

    ponged : (o : Option Given) → GoesTo o → GoesTo (pong_or s o)
    ponged o h =
        let given : Given = record { out = Message reply.Pong; notice = pong; after = record s { pings = s.pings - 1 } } in
        given_if (nat_lt 0 s.pings) given o (record { same = refl; moves = stays s.phase }, λ over. over) h

    given_in : (phase : Phase) → s.phase ≡ phase → GoesTo (next_in schemas room n s phase)
    given_in new is = ponged None tt
    given_in (asked request reached plan) is = (moved _ is _ refl (answered request reached plan), λ over. absurd (cc))
    given_in (live sent plan) is =
        let clock = length room.history in
        let given : Given = record {
          out = Message (updates schemas (member_of n s plan) sent room.history);
          notice = updates_between sent clock;
          after = record s { phase = live clock plan };
        } in
        let later : GoesTo (Some given) = (moved (live sent plan) is given.after refl (updated sent plan), λ over. absurd (cc)) in
        ponged (cond (nat_lt sent clock) (Some given) None) (given_if (nat_lt sent clock) given None later tt)
    given_in (ended reason true) is = tt
    given_in (ended reason false) is = (moved _ is _ refl (closes _ _ refl), λ over. ap is_over is)
    given_in gone is = tt

    left_in : has_left s.phase ≡ false → Step schemas None room (leave n s room)
    left_in here =
        elim (is_ended s.phase) as (λ b. is_ended s.phase ≡ b → Step schemas None room (cond b (with_session n (record s { phase = gone }) room) (after_close n s gone room))) [
          | true ↦ λ is. goes n s _ refl at (record { same = refl; moves = closes _ _ refl }) (λ over. ap (λ b. b || has_left s.phase) is) refl
          | false ↦ λ is. ends n s gone refl at (neither _ _ is here) refl refl
        ] refl

  pub message_step : (n : ℕ) (said : ClientMessage) (replied : Replied) → after_message schemas room n said ≡ Some replied → Step schemas (taken_by n said replied.reply) room replied.room
  message_step n said replied is =
      let h = mapped _ _ replied is in
      let at = there room n h.0 h.1 in
      subst (λ r. Step schemas (taken_by n said r.reply) room r.room) h.2 (replied_in n h.0 at.0 said h.0.phase refl at.1)

  pub enter_step : (readonly : Bool) (after : Room) → enter readonly room ≡ Some after → Step schemas None room after
  enter_step readonly after is =
      elim (is_full room) as (λ b. cond b None (Some (after_enter readonly room)) ≡ Some after → Step schemas None room after) [
        | true ↦ λ same. absurd (cc)
        | false ↦ λ same. let it : after_enter readonly room ≡ after = cc in enters readonly refl (sym it)
      ] is

  pub drain_step : (n : ℕ) (given : Given) → next_for schemas room n ≡ Some given → Step schemas None room (after_drain room n given)
  drain_step n given is =
      let h = chained (λ s. next_in schemas room n s s.phase) (session_at n room) given is in
      let at = there room n h.0 h.1 in
      let on : GoesTo n h.0 at.0 (Some given) = subst (GoesTo n h.0 at.0) h.2 (given_in n h.0 at.0 h.0.phase refl) in
      goes n h.0 given.after refl at.0 on.0 on.1 refl

  pub leave_step : (n : ℕ) (after : Room) → after_leave room n ≡ Some after → Step schemas None room after
  leave_step n after is =
      let h = mapped _ _ after is in
      let at = there room n h.0 h.1 in
      subst (λ r. Step schemas None room r) h.2 (left_in n h.0 at.0 at.1)

-- what holds of the rooms that calls make, if a session that goes on, the end of a presence, an entry of a push and a session that
-- enters keep it
module _ (P : Room → Type 0)
    (sets : (room : Room) (n : ℕ) (s t : Session) → slice_get room.sessions n ≡ Some s → Goes (length room.history) s t → P room → P (with_session n t room))
    (removes : (room : Room) (n : ℕ) → is_present n room ≡ true → P room → P (record room { history = removal n ∷ room.history })) where
  pub closed : (room : Room) (n : ℕ) (s : Session) (phase : Phase) → slice_get room.sessions n ≡ Some s → is_over phase ≡ true → P room → P (close n s phase room)
  closed room n s phase at over h =
      let t : Session = record s { phase = phase } in
      let after : Room = record room { history = removal n ∷ room.history } in
      elim (is_present n room) as (λ b. is_present n room ≡ b → P (with_session n t (cond b after room))) [
        | true ↦ λ is. sets after n s t at (record { same = refl; moves = closes s.phase phase over }) (removes room n is h)
        | false ↦ λ is. sets room n s t at (record { same = refl; moves = closes s.phase phase over }) h
      ] refl

  slow_closed : (room : Room) (n : ℕ) → P room → P (close_slow room n)
  slow_closed room n h =
      elim (slice_get room.sessions n) as (λ o. slice_get room.sessions n ≡ o → P (option_map_or (λ s. close n s (ended Slow false) room) o room)) [
        | None ↦ λ at. h
        | Some s ↦ λ at. closed room n s (ended Slow false) at refl h
      ] refl

  pub slow_ended : (k : ℕ) (room : Room) → P room → P (without_slow k room)
  slow_ended zero room h = h
  slow_ended (suc k) room h = elim (first_slow room) as (λ o. P (option_map_or (λ n. without_slow k (close_slow room n)) o room)) [
    | None ↦ h
    | Some n ↦ slow_ended k (close_slow room n) (slow_closed room n h)
  ]

  after_closed : (room : Room) (n : ℕ) (s : Session) (phase : Phase) → slice_get room.sessions n ≡ Some s → is_over phase ≡ true → P room → P (after_close n s phase room)
  after_closed room n s phase at over h =
      let after = close n s phase room in
      let now = closed room n s phase at over h in
      elim (is_present n room) as (λ b. P (cond b (end_slow after) after)) [ true ↦ slow_ended (length after.sessions) after now | false ↦ now ]

  module _ (schemas : Schemas) (o : Option (ℕ × ClientMessage))
      (adds : (room : Room) (readonly : Bool) → P room → P (after_enter readonly room))
      (pushed : (room : Room) (n : ℕ) (s : Session) (sent : ℕ) (plan : Plan) (said : ClientMessage) (push : Push) → o ≡ Some (n, said) → push_of said ≡ Some push
      → slice_get room.sessions n ≡ Some s → s.phase ≡ live sent plan → is_taken schemas (member_of n s plan) push ≡ true → P room
      → P (record room { history = pushed_by schemas room n s plan push ∷ room.history })) where
    pub step_keeps : (room after : Room) → Step schemas o room after → P room → P after
    step_keeps room after (nothing none same) h = subst P (sym same) h
    step_keeps room after (enters readonly none same) h = subst P (sym same) (adds room readonly h)
    step_keeps room after (goes n s t none at on kept same) h = subst P (sym same) (sets room n s t at on h)
    step_keeps room after (ends n s phase none at before over same) h = subst P (sym same) (after_closed room n s phase at over h)
    step_keeps room after (pushes n s sent plan said push some says at is taken same) h =
        let now : Room = record room { history = pushed_by schemas room n s plan push ∷ room.history } in
        subst P (sym same) (slow_ended (length now.sessions) now (pushed room n s sent plan said push some says at is taken h))

-- the diff of a message that was taken rises
abbrev pub TakenRises : Option (ℕ × ClientMessage) → Type 0
TakenRises None = Unit {0}
TakenRises (Some p) = IsRising p.1

taken_rises : (n : ℕ) (said : ClientMessage) (reply : Handled) → IsRising said → TakenRises (taken_by n said reply)
taken_rises n said Taken rising = rising
taken_rises n said Entered rising = tt
taken_rises n said Pong rising = tt
taken_rises n said (Ended reason) rising = tt

-- the diff of a push that a message is rises
pub push_rises : (said : ClientMessage) (push : Push) → push_of said ≡ Some push → IsRising said → AreRising push.diff
push_rises (message.Connect request reached protocol versions) push says rising = absurd (cc)
push_rises (message.Push client_clock diff presence) push says rising = let same = same_Some _ _ says in subst (λ p. AreRising p.diff) same rising
push_rises message.Ping push says rising = absurd (cc)

-- what each step keeps holds of all rooms that calls make
pub everywhere : (schemas : Schemas) (P : Room → Type 0) → ((room : Room) → IsBeginning schemas room → P room)
    → ((o : Option (ℕ × ClientMessage)) → TakenRises o → (room after : Room) → Step schemas o room after → P room → P after) → (room : Room) → Reachable schemas room → P room
everywhere schemas P first keeps _ (begins room beginning) = first room beginning
everywhere schemas P first keeps _ (entered readonly room after before is) = keeps None tt room after (enter_step schemas room readonly after is) (everywhere schemas P first keeps room before)
everywhere schemas P first keeps _ (received session said room replied before rising is) =
    keeps (taken_by session said replied.reply) (taken_rises session said replied.reply rising) room replied.room (message_step schemas room session said replied is) (everywhere schemas P first keeps room before)
everywhere schemas P first keeps _ (drained session given room before is) = keeps None tt room _ (drain_step schemas room session given is) (everywhere schemas P first keeps room before)
everywhere schemas P first keeps _ (left session room after before is) = keeps None tt room after (leave_step schemas room session after is) (everywhere schemas P first keeps room before)
