-- What the definitions give a session next, by its phase.
use Rattle.std.proofs.Common.{◌≡◌, ℕ, suc, ◌+◌, ◌-◌, ◌≤◌, ◌<◌, ℤ, pos, nat_abs, nat_lt, Bool, true, false, cond, List, [], ◌∷◌, length, Option, Some, None, refl, sym, ap, subst, ◌∙◌, arith}
use Rattle.std.proofs.lemmas.Bool.Decides.{nat_tests}
use Rattle.slab.specs.Slab.{get}
use Rattle.room_model.specs.Histories.{History, above}
use Rattle.room_model.specs.Messages.{snapshot, updates}
use Rattle.room_model.specs.Schemas.{Schemas}
use Rattle.room_model.specs.Rooms as model
use Rattle.room_model.specs.Reachable.{is_over}
use Rattle.room_accept.specs.Plans.{plan_of}
use Rattle.room_messages.specs.Results.{own_clocks}
use Rattle.sync_msgs.specs.declared.end_reason.EndReason.{EndReason}
use Rattle.sync_msgs.specs.declared.out.Out.{Out}
use Rattle.sync_msgs.specs.declared.out.Out.TheVariants as out
use Rattle.sync_msgs.specs.declared.server_message.ServerMessage.{ServerMessage}
use Rattle.sync_msgs.specs.declared.server_message.ServerMessage.TheVariants as reply
use Rattle.sync_room.specs.Sessions.{phase_of, session_of, reached, IsSent, IsSentIn, IsKept, IsWithPushed, Holds}
use Rattle.sync_room.specs.Sending.{IsNextIn, IsNext, message_in, member_in, IsChanged, Sends}
use Rattle.sync_room.specs.Standing.{Agrees, Stands, Drains}
use Rattle.sync_room.specs.declared.drain.Next.{Next}
use Rattle.sync_room.specs.declared.drain.Next.TheVariants.{End, Pong, Message}
use Rattle.sync_room.specs.declared.room.Room.{Room}
use Rattle.sync_room.specs.declared.session.Phase.{Phase}
use Rattle.sync_room.specs.declared.session.Phase.TheVariants.{New, Asked, Live, Ended}
use Rattle.sync_room.specs.declared.session.Session.{Session}
use Rattle.sync_room.proofs.HandleLemmas.{pings_kept}
use Rattle.sync_room.proofs.RoomLemmas.{Decides, changes, given_nothing, given_out}

-- nothing lies above the clock of a history
above_all : (history : History) → above (length history) history ≡ []
above_all [] = refl
above_all (entry ∷ history) =
    let is : nat_lt (length history) (suc (length history)) ≡ true = grind (arith, nat_tests) in
    ap (λ b. cond b [] (entry ∷ above (suc (length history)) history)) is

all_sent : (history : History) (number : ℕ) (clock : ℤ) (pushed : List ℤ) → clock ≡ pos (length history) → pushed ≡ [] → IsSent history number clock pushed
all_sent history number clock pushed now none =
    subst (λ clock. IsSent history number clock pushed) (sym now)
    (record { natural = refl; within = omega arith; pushes = none ∙ sym (ap (own_clocks number) (above_all history)) })

-- a session that was sent everything up to the clock is kept so
sent_in : (history : History) (number : ℕ) (clock : ℤ) (pushed : List ℤ) (phase : Phase) → clock ≡ pos (length history) → pushed ≡ []
    → is_over (phase_of phase) ≡ false → IsSentIn history number pushed (reached clock phase)
sent_in history number clock pushed New now none is = tt
sent_in history number clock pushed (Asked request said plan) now none is = all_sent history number clock pushed now none
sent_in history number clock pushed (Live sent plan) now none is = all_sent history number clock pushed now none
sent_in history number clock pushed (Ended reason told) now none is = tt

reached_unended : (clock : ℤ) (phase : Phase) → is_over (phase_of phase) ≡ false → is_over (phase_of (reached clock phase)) ≡ false
reached_unended clock New is = refl
reached_unended clock (Asked request said plan) is = refl
reached_unended clock (Live sent plan) is = refl
reached_unended clock (Ended reason told) is = absurd (cc)

pub reached_kept : (history : History) (s t : Session) (clock : ℤ) → clock ≡ pos (length history) → is_over (phase_of s.phase) ≡ false
    → IsWithPushed [] (record s { phase = reached clock s.phase }) t → IsKept history s → IsKept history t
reached_kept history s t clock now is with h = subst (IsKept history) (sym with.same) (record {
  sent = sent_in history s.number clock t.pushed.items s.phase now with.clocks is;
  unended = λ still. h.unended is;
  ended = λ over. absurd (let no = reached_unended clock s.phase is in cc);
})

-- the session that it then is
reached_session : (s t : Session) (clock : ℤ) (k : ℕ) (phase : Phase) → clock ≡ pos k → s.phase ≡ phase → IsWithPushed [] (record s { phase = reached clock s.phase }) t
    → session_of t ≡ record (session_of s) { phase = phase_of (reached (pos k) phase) }
reached_session s t clock k phase now is with =
    ap session_of with.same ∙ ap (λ p. record (session_of s) { phase = phase_of p }) (ap (λ c. reached c s.phase) now ∙ ap (reached (pos k)) is)

no_ping : (n : ℕ) → cond {A = Next} (nat_lt 0 n) Pong Message ≡ Message → nat_lt 0 n ≡ false
no_ping n is = elim (nat_lt 0 n) as (λ b. cond {A = Next} b Pong Message ≡ Message → b ≡ false) [ true ↦ λ same. absurd (cc) | false ↦ λ same. refl ] is

a_ping : (n : ℕ) → cond {A = Next} (nat_lt 0 n) Pong Message ≡ Pong → nat_lt 0 n ≡ true
a_ping n is = elim (nat_lt 0 n) as (λ b. cond {A = Next} b Pong Message ≡ Pong → b ≡ true) [ true ↦ λ same. refl | false ↦ λ same. absurd (cc) ] is

no_end : (n : ℕ) (reason : EndReason) (told : Bool) → End reason told ≡ cond {A = Next} (nat_lt 0 n) Pong Message → ⊥
no_end n reason told is = elim (nat_lt 0 n) as (λ b. End reason told ≡ cond {A = Next} b Pong Message → ⊥) [ true ↦ λ same. absurd (cc) | false ↦ λ same. absurd (cc) ] is

-- pings wait, where a pong is next
pub waits : (phase : Phase) (n : ℕ) → IsNextIn phase n Pong → 0 < n
waits New n is = let yes = a_ping n (sym is) in grind (arith, nat_tests)
waits (Asked request said plan) n is = absurd (cc)
waits (Live sent plan) n is = let yes = a_ping n (sym is) in grind (arith, nat_tests)
waits (Ended reason told) n is = absurd (cc)

-- the session was ended, where that is next
pub ends : (phase : Phase) (n : ℕ) (reason : EndReason) (told : Bool) → IsNextIn phase n (End reason told) → phase ≡ Ended reason told
ends New n reason told is = absurd (no_end n reason told is)
ends (Asked request said plan) n reason told is = absurd (cc)
ends (Live sent plan) n reason told is = absurd (no_end n reason told is)
ends (Ended why was) n reason told is = let one : why ≡ reason = cc in let other : was ≡ told = cc in ap (λ r. Ended r was) one ∙ ap (Ended reason) other

pub unended_message : (phase : Phase) (n : ℕ) → IsNextIn phase n Message → is_over (phase_of phase) ≡ false
unended_message New n is = refl
unended_message (Asked request said plan) n is = refl
unended_message (Live sent plan) n is = refl
unended_message (Ended reason told) n is = absurd (cc)

module _ (schemas : Schemas) (state : model.Room) (room after : Room) (decides : Decides schemas room after)
    (key : ℕ) (s : Session) (h : Stands state room) (at : get room.sessions.present key ≡ Some s) where
  abbrev ponged : model.Given
  ponged = record { out = out.Message reply.Pong; notice = model.pong; after = record (session_of s) { pings = s.pings - 1 } }

  pong_next : (phase : Phase) → IsNextIn phase s.pings Pong → model.next_in schemas state s.number (session_of s) (phase_of phase) ≡ Some ponged
  pong_next New is = ap (λ b. cond b (Some ponged) None) (a_ping s.pings (sym is))
  pong_next (Asked request said plan) is = absurd (cc)
  pong_next (Live sent plan) is =
      ap (λ b. cond b (Some ponged) (cond (nat_lt (nat_abs sent) (length state.history)) (Some (record {
        out = out.Message (updates schemas (member_in s.number (session_of s) (plan_of plan)) (nat_abs sent) state.history);
        notice = model.updates_between (nat_abs sent) (length state.history);
        after = record (session_of s) { phase = model.live (length state.history) (plan_of plan) };
      })) None)) (a_ping s.pings (sym is))
  pong_next (Ended reason told) is = absurd (cc)

  -- a pong
  pub pongs : IsNext s Pong → IsChanged key (record s { pings = s.pings - 1 }) room after → Drains state s.number (model.next_for schemas state s.number) (Some (out.Message reply.Pong)) after
  pongs is changed =
      given_out schemas state room after decides key s h at ponged (out.Message reply.Pong) (pong_next s.phase is) refl
      (changes state room after key s (record s { pings = s.pings - 1 }) h.agrees at refl (pings_kept state.history s (s.pings - 1) (h.agrees.sessions.kept key s at)) changed)

  -- an end, or nothing after it
  pub ends_told : (reason : EndReason) → s.phase ≡ Ended reason true → Stands state after → Drains state s.number (model.next_for schemas state s.number) None after
  ends_told reason is stands =
      given_nothing schemas state room after decides key s h at (ap (λ phase. model.next_in schemas state s.number (session_of s) (phase_of phase)) is) stands

  pub ends_untold : (reason : EndReason) → s.phase ≡ Ended reason false → IsChanged key (record s { phase = Ended reason true }) room after
      → Drains state s.number (model.next_for schemas state s.number) (Some (out.End reason)) after
  ends_untold reason is changed =
      let over : is_over (phase_of s.phase) ≡ true = ap (λ phase. is_over (phase_of phase)) is in
      let kept = h.agrees.sessions.kept key s at in
      given_out schemas state room after decides key s h at
      (record { out = out.End reason; notice = model.end reason; after = record (session_of s) { phase = model.ended reason true } })
      (out.End reason) (ap (λ phase. model.next_in schemas state s.number (session_of s) (phase_of phase)) is) refl
      (changes state room after key s (record s { phase = Ended reason true }) h.agrees at refl
      (record { sent = tt; unended = λ no. absurd (cc); ended = λ yes. kept.ended over }) changed)

  -- what was sent brings the session to the clock
  sent_agrees : (phase : Phase) → s.phase ≡ phase → is_over (phase_of s.phase) ≡ false → (t : Session) → IsWithPushed [] (record s { phase = reached room.history.kept.clock s.phase }) t
      → IsChanged key t room after → Agrees (model.with_session s.number (record (session_of s) { phase = phase_of (reached (pos (length state.history)) phase) }) state) after
  sent_agrees phase is unended t with changed =
      let now = h.agrees.history.clock in
      subst (λ session. Agrees (model.with_session s.number session state) after) (reached_session s t room.history.kept.clock (length state.history) phase now is with)
      (changes state room after key s t h.agrees at (ap (λ s. s.number) with.same)
      (reached_kept state.history s t room.history.kept.clock now unended with (h.agrees.sessions.kept key s at)) changed)

  same_stands : after ≡ room → Stands state after
  same_stands is = subst (Stands state) (sym is) h

  sends_in : (phase : Phase) → s.phase ≡ phase → IsNextIn phase s.pings Message → (given : Option Out)
      → Sends (message_in schemas state s.number (session_of s) (phase_of phase)) key s given room after → Drains state s.number (model.next_for schemas state s.number) given after
  sends_in New is next given sent =
      let nothing : model.next_in schemas state s.number (session_of s) (phase_of s.phase) ≡ None =
      ap (λ phase. model.next_in schemas state s.number (session_of s) (phase_of phase)) is ∙ ap (λ b. cond b (Some ponged) None) (no_ping s.pings (sym next)) in
      subst (λ o. Drains state s.number (model.next_for schemas state s.number) o after) (sym sent.0)
      (given_nothing schemas state room after decides key s h at nothing (same_stands sent.1))
  sends_in (Asked request said plan) is next given sent =
      let unended : is_over (phase_of s.phase) ≡ false = ap (λ phase. is_over (phase_of phase)) is in
      let message = out.Message (snapshot schemas (member_in s.number (session_of s) (plan_of plan)) request said state.first state.history) in
      let it : model.Given = record { out = message; notice = model.snapshot_at (length state.history); after = record (session_of s) { phase = model.live (length state.history) (plan_of plan) } } in
      subst (λ o. Drains state s.number (model.next_for schemas state s.number) o after) (sym sent.0)
      (given_out schemas state room after decides key s h at it message (ap (λ phase. model.next_in schemas state s.number (session_of s) (phase_of phase)) is) refl
      (sent_agrees (Asked request said plan) is unended sent.1.0 sent.1.1 sent.1.2))
  sends_in (Live sent_clock plan) is next given sent =
      let unended : is_over (phase_of s.phase) ≡ false = ap (λ phase. is_over (phase_of phase)) is in
      let k = nat_abs sent_clock in
      let message : Out = out.Message (updates schemas (member_in s.number (session_of s) (plan_of plan)) k state.history) in
      let it : model.Given = record { out = message; notice = model.updates_between k (length state.history); after = record (session_of s) { phase = model.live (length state.history) (plan_of plan) } } in
      let next_is : model.next_in schemas state s.number (session_of s) (phase_of s.phase) ≡ cond (nat_lt k (length state.history)) (Some it) None =
      ap (λ phase. model.next_in schemas state s.number (session_of s) (phase_of phase)) is
      ∙ ap (λ b. cond b (Some ponged) (cond (nat_lt k (length state.history)) (Some it) None)) (no_ping s.pings (sym next)) in
      elim (nat_lt k (length state.history)) as (λ b. nat_lt k (length state.history) ≡ b
      → Sends (cond b (Some (updates schemas (member_in s.number (session_of s) (plan_of plan)) k state.history)) None) key s given room after
      → Drains state s.number (model.next_for schemas state s.number) given after) [
        | true ↦ λ behind sent.
            subst (λ o. Drains state s.number (model.next_for schemas state s.number) o after) (sym sent.0)
            (given_out schemas state room after decides key s h at it message (next_is ∙ ap (λ b. cond b (Some it) None) behind) refl
            (sent_agrees (Live sent_clock plan) is unended sent.1.0 sent.1.1 sent.1.2))
        | false ↦ λ level sent.
            subst (λ o. Drains state s.number (model.next_for schemas state s.number) o after) (sym sent.0)
            (given_nothing schemas state room after decides key s h at (next_is ∙ ap (λ b. cond b (Some it) None) level) (same_stands sent.1))
      ] refl sent
  sends_in (Ended reason told) is next given sent = absurd (cc)

  -- a message, if there is one
  pub sends : IsNext s Message → (given : Option Out) → Sends (message_in schemas state s.number (session_of s) (phase_of s.phase)) key s given room after
      → Drains state s.number (model.next_for schemas state s.number) given after
  sends next given sent = sends_in s.phase refl next given sent

-- a message was sent, or there was none
pub sent_message : (room after : Room) (key : ℕ) (s t : Session) (o : Option ServerMessage) (said : ServerMessage) (clock : ℤ) → Some said ≡ o → clock ≡ room.history.kept.clock
    → IsWithPushed [] (record s { phase = reached clock s.phase }) t → IsChanged key t room after → Sends o key s (Some (out.Message said)) room after
sent_message room after key s t o said clock is now with changed =
    subst (λ o. Sends o key s (Some (out.Message said)) room after) is
    (refl, (t, subst (λ clock. IsWithPushed [] (record s { phase = reached clock s.phase }) t) now with, changed))

pub sent_nothing : (room after : Room) (key : ℕ) (s : Session) (o : Option ServerMessage) → None ≡ o → after ≡ room → Sends o key s None room after
sent_nothing room after key s o is same = subst (λ o. Sends o key s None room after) is (refl, same)

module _ (schemas : Schemas) (state : model.Room) (room after : Room) (decides : Decides schemas room after) (key number : ℕ) (s : Session) (h : Stands state room) (at : get room.sessions.present key ≡ Some s)
    (is : s.number ≡ number) where
  pub drains_end : (next : Next) (reason : EndReason) (told : Bool) (given : Option Out) → IsNext s next → next ≡ End reason told
      → (told ≡ true → (given ≡ None) × (after ≡ room))
      → (told ≡ false → (given ≡ Some (out.End reason)) × IsChanged key (record s { phase = Ended reason true }) room after)
      → Drains state number (model.next_for schemas state number) given after
  drains_end next reason told given kind end was wasnt =
      let phase : s.phase ≡ Ended reason told = ends s.phase s.pings reason told (subst (IsNext s) end kind) in
      subst (λ n. Drains state n (model.next_for schemas state n) given after) is
      (elim told as (λ b. told ≡ b → s.phase ≡ Ended reason b → Drains state s.number (model.next_for schemas state s.number) given after) [
        | true ↦ λ b phase.
            subst (λ o. Drains state s.number (model.next_for schemas state s.number) o after) (sym (was b).0)
            (ends_told schemas state room after decides key s h at reason phase (same_stands schemas state room after decides key s h at (was b).1))
        | false ↦ λ b phase.
            subst (λ o. Drains state s.number (model.next_for schemas state s.number) o after) (sym (wasnt b).0)
            (ends_untold schemas state room after decides key s h at reason phase (wasnt b).1)
      ] refl phase)

  pub drains_pong : (next : Next) (given : Out) → IsNext s next → next ≡ Pong → given ≡ out.Message reply.Pong → IsChanged key (record s { pings = s.pings - 1 }) room after
      → Drains state number (model.next_for schemas state number) (Some given) after
  drains_pong next given kind pong same changed =
      subst (λ o. Drains state number (model.next_for schemas state number) (Some o) after) (sym same)
      (subst (λ n. Drains state n (model.next_for schemas state n) (Some (out.Message reply.Pong)) after) is
      (pongs schemas state room after decides key s h at (subst (IsNext s) pong kind) changed))

  pub drains_message : (next : Next) (given : Option Out) → IsNext s next → next ≡ Message
      → Sends (message_in schemas state s.number (session_of s) (phase_of s.phase)) key s given room after → Drains state number (model.next_for schemas state number) given after
  drains_message next given kind message sent =
      subst (λ n. Drains state n (model.next_for schemas state n) given after) is
      (sends schemas state room after decides key s h at (subst (IsNext s) message kind) given sent)
