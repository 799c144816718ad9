-- What the definitions make of a message, by the phase of its session.
use Rattle.std.proofs.Common.{◌≡◌, ℕ, suc, ◌+◌, ◌≤◌, ◌<◌, ℤ, pos, min, nat_le, nat_lt, Bool, true, false, cond, List, [], ◌∷◌, ◌++◌, length, slice_set, is_some, Option, Some, None, Result, Ok, Err, refl, sym, ap, subst, ◌∙◌, arith, append-nil}
use Rattle.std.specs.Option.{option_map_or}
use Rattle.std.proofs.lemmas.Bool.Decides.{nat_tests}
use Rattle.slab.specs.Slab.{get}
use Rattle.room_model.specs.Accepting.{Push, is_taken, entry_of}
use Rattle.room_model.specs.Histories.{History, records_of}
use Rattle.room_model.specs.Schemas.{Schemas, Plan, Member}
use Rattle.room_model.specs.Rooms as model
use Rattle.room_model.specs.Reachable.{is_over}
use Rattle.room_model.specs.declared.handled.Handled.TheVariants as handled
use Rattle.room_model.specs.declared.limits.TheConstants.{MOST_PINGS}
use Rattle.room_accept.specs.declared.plan.SessionPlan.{SessionPlan}
use Rattle.sync_msgs.specs.declared.end_reason.EndReason.{EndReason}
use Rattle.sync_msgs.specs.declared.end_reason.EndReason.TheVariants.{InvalidRecord, RoomFull}
use Rattle.sync_room.specs.Sessions.{phase_of, session_of, is_new, is_live, IsSentIn, IsKept, IsWithPushed, Holds, with_at}
use Rattle.sync_room.specs.declared.session.Phase.{Phase}
use Rattle.sync_room.specs.declared.session.Phase.TheVariants.{New, Asked, Live, Ended}
use Rattle.sync_room.specs.declared.session.Session.{Session}
use Rattle.sync_room.specs.declared.sessions.Sessions.{Sessions}
use Rattle.sync_room.proofs.TableLemmas.{changed, set_same}

module _ (schemas : Schemas) (number : ℕ) (session : model.Session) (state : model.Room) where
  -- a session that isn't new asks
  pub asks_again : (ask : model.Ask) (phase : Phase) → is_new phase ≡ false
      → model.after_connect schemas number session ask state (phase_of phase) ≡ model.refuse number session InvalidRecord state
  asks_again ask New is = absurd (cc)
  asks_again ask (Asked request reached plan) is = refl
  asks_again ask (Live sent plan) is = refl
  asks_again ask (Ended reason told) is = refl

  -- a new one asks by a protocol that can't be spoken
  pub asks_wrongly : (ask : model.Ask) (phase : Phase) (reason : EndReason) → is_new phase ≡ true → model.protocol_fault ask.protocol ≡ Some reason
      → model.after_connect schemas number session ask state (phase_of phase) ≡ model.refuse number session reason state
  asks_wrongly ask New reason new is =
      ap (λ o. option_map_or (λ reason. model.refuse number session reason state) o (model.after_plan number session ask state (schemas.plan_for ask.versions))) is
  asks_wrongly ask (Asked request reached plan) reason new is = absurd (cc)
  asks_wrongly ask (Live sent plan) reason new is = absurd (cc)
  asks_wrongly ask (Ended why told) reason new is = absurd (cc)

  -- a new one asks by the protocol, and has a plan or not
  pub asks_rightly : (ask : model.Ask) (phase : Phase) (planned : Result Plan EndReason) → is_new phase ≡ true → model.protocol_fault ask.protocol ≡ None
      → planned ≡ schemas.plan_for ask.versions → model.after_connect schemas number session ask state (phase_of phase) ≡ model.after_plan number session ask state planned
  asks_rightly ask New planned new right is =
      ap (λ o. option_map_or (λ reason. model.refuse number session reason state) o (model.after_plan number session ask state (schemas.plan_for ask.versions))) right
      ∙ ap (model.after_plan number session ask state) (sym is)
  asks_rightly ask (Asked request reached plan) planned new right is = absurd (cc)
  asks_rightly ask (Live sent plan) planned new right is = absurd (cc)
  asks_rightly ask (Ended reason told) planned new right is = absurd (cc)

new_unended : (phase : Phase) → is_new phase ≡ true → is_over (phase_of phase) ≡ false
new_unended New is = refl
new_unended (Asked request reached plan) is = absurd (cc)
new_unended (Live sent plan) is = absurd (cc)
new_unended (Ended reason told) is = absurd (cc)

-- a new session that has asked is kept so
pub asked_kept : (history : History) (s : Session) (request : List ℕ) (reached : ℤ) (plan : SessionPlan) → is_new s.phase ≡ true
    → IsKept history s → IsKept history (record s { phase = Asked request reached plan })
asked_kept history s request reached plan new h = record { sent = tt; unended = λ is. h.unended (new_unended s.phase new); ended = λ is. absurd (cc) }

-- a session is kept whatever pings of it wait
pub pings_kept : (history : History) (s : Session) (pings : ℕ) → IsKept history s → IsKept history (record s { pings = pings })
pings_kept history s pings h = record { sent = h.sent; unended = h.unended; ended = h.ended }

-- a session is as it was where memory for a client clock is taken
pub reserved : (state : model.Room) (table : Sessions) (key : ℕ) (s t : Session) → Holds state table → get table.present key ≡ Some s
    → IsWithPushed s.pushed.items s t → Holds state (with_at key t table)
reserved state table key s t h at with =
    let number : t.number ≡ s.number = ap (λ s. s.number) with.same in
    let session : session_of t ≡ session_of s = ap session_of with.same in
    let old = h.kept key s at in
    let kept : IsKept state.history t = subst (IsKept state.history) (sym with.same) (record {
      sent = subst (λ clocks. IsSentIn state.history s.number clocks s.phase) (sym with.clocks) old.sent;
      unended = old.unended;
      ended = old.ended;
    }) in
    let sessions : slice_set state.sessions s.number (session_of t) ≡ state.sessions =
    ap (slice_set state.sessions s.number) session ∙ set_same state.sessions s.number (session_of s) (h.here key s at) in
    subst (λ ss. Holds (record state { sessions = ss }) (with_at key t table)) sessions (changed state table h key s at t number kept)

-- a push of a session that isn't live, of one in a full room, of one that is refused, and of one that is taken
module _ (schemas : Schemas) (number : ℕ) (session : model.Session) (state : model.Room) (push : Push) where
  pub pushes_early : (phase : Phase) → is_live phase ≡ false → model.after_push schemas number session push state (phase_of phase) ≡ model.refuse number session InvalidRecord state
  pushes_early New is = refl
  pushes_early (Asked request reached plan) is = refl
  pushes_early (Live sent plan) is = absurd (cc)
  pushes_early (Ended reason told) is = refl

  module _ (sent : ℕ) (plan : Plan) where
    abbrev member : Member
    member = record { session = number; readonly = session.readonly; plan = plan }

    abbrev taken_room : model.Room
    taken_room = model.after_entry (entry_of schemas member (records_of state.history) push) state

    pub pushes_late : state.last ≤ length state.history → model.after_push schemas number session push state (model.live sent plan) ≡ model.refuse number session RoomFull state
    pushes_late late =
        let full : nat_le state.last (length state.history) ≡ true = grind (arith, nat_tests) in
        ap (λ b. cond b (model.refuse number session RoomFull state) (cond (is_taken schemas member push) (record { reply = handled.Taken; room = taken_room }) (model.refuse number session InvalidRecord state))) full

    pub pushes_by : (b : Bool) → length state.history < state.last → b ≡ is_taken schemas member push
        → model.after_push schemas number session push state (model.live sent plan)
        ≡ cond b (record { reply = handled.Taken; room = taken_room }) (model.refuse number session InvalidRecord state)
    pushes_by b early is =
        let place : nat_le state.last (length state.history) ≡ false = grind (arith, nat_tests) in
        ap (λ b. cond b (model.refuse number session RoomFull state) (cond (is_taken schemas member push) (record { reply = handled.Taken; room = taken_room }) (model.refuse number session InvalidRecord state))) place
        ∙ ap (λ b. cond b (record { reply = handled.Taken; room = taken_room }) (model.refuse number session InvalidRecord state)) (sym is)

-- how many pings wait after a further one
pub next_pings : (n : ℕ) → n < 4294967296 → min (n + 1) 4294967295 ≡ cond (nat_lt n MOST_PINGS) (suc n) n
next_pings n fits = elim (nat_lt n MOST_PINGS) as (λ b. nat_lt n MOST_PINGS ≡ b → min (n + 1) 4294967295 ≡ cond b (suc n) n) [
  | true ↦ λ less. let it : n < 4294967295 = grind (arith, nat_tests) in omega arith
  | false ↦ λ most. let it : 4294967295 ≤ n = grind (arith, nat_tests) in omega arith
] refl

-- a session as accepting knows it, by its parts
abbrev pub made_member : ℕ → Bool → Plan → Member
made_member number readonly plan = record { session = number; readonly = readonly; plan = plan }

pub same_member : {a b : ℕ} {r q : Bool} {p o : Plan} → a ≡ b → r ≡ q → p ≡ o → made_member a r p ≡ made_member b q o
same_member {a} {b} {r} {q} {p} {o} is also too =
    ap (λ n. made_member n r p) is ∙ ap (λ x. made_member b x p) also ∙ ap (made_member b q) too
