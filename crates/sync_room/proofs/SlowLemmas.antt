-- Which session is the first that is too slow, and how far ending those goes.
use Rattle.std.proofs.Common.{◌≡◌, ◌⊎◌, inl, inr, ℕ, zero, suc, ◌+◌, ◌-◌, ◌≤◌, ◌<◌, ℤ, pos, negsuc, ◌-ℤ◌, ◌≤ℤ◌, ◌<ℤ◌, nat_abs, nat_lt, Bool, true, false, ◌&&◌, not, cond, List, [], ◌∷◌, length, slice_get, slice_set, position, count_by, is_some, Option, Some, None, IfSome, IfNone, refl, sym, ap, subst, ◌∙◌, arith}
use Rattle.std.specs.Prelude.{int_lt}
use Rattle.std.specs.Option.{option_map_or}
use Rattle.std.proofs.lemmas.Bool.Decides.{nat_tests}
use Rattle.std.proofs.lemmas.Int.{ints}
use Rattle.std.proofs.lemmas.List.Sums.{count_by-le-length, sum_by-set}
use Rattle.slab.specs.Slab.{get}
use Rattle.room_model.specs.Histories.{History}
use Rattle.room_model.specs.Rooms as model
use Rattle.room_model.specs.Reachable.{is_over}
use Rattle.room_model.specs.declared.limits.TheConstants.{MOST_TOLD}
use Rattle.room_model.proofs.ClockLemmas.{slow_at, slow_closing, closed_sessions, is_live}
use Rattle.slab.proofs.SlabLemmas.{ContainsKey-within}
use Rattle.sync_msgs.specs.declared.end_reason.EndReason.{EndReason}
use Rattle.sync_msgs.specs.declared.end_reason.EndReason.TheVariants.{Slow}
use Rattle.sync_room.specs.Sessions.{phase_of, session_of, IsSent, IsSentIn, IsKept, Holds, with_at, ended_by, is_live as is_live_phase, is_behind, IsLeastSent, IsFirstBehind}
use Rattle.sync_room.specs.declared.session.Phase.{Phase}
use Rattle.sync_room.specs.declared.session.Phase.TheVariants.{New, Asked, Live, Ended}
use Rattle.sync_room.specs.declared.session.Session.{Session}
use Rattle.sync_room.specs.declared.sessions.Sessions.{Sessions}
use Rattle.sync_room.proofs.ListLemmas.{one_if, first_passes, first_none, count_set}

-- to lie below what a clock less 32 is
below_told : (n k : ℕ) (t : ℤ) → t ≡ pos k -ℤ pos 32 → int_lt (pos n) t ≡ nat_lt (n + MOST_TOLD) k
below_told n k (pos u) is = let same : u + 32 ≡ k = omega (arith, ints) in grind (arith, nat_tests)
below_told n k (negsuc u) is = let low : k < 32 = omega (arith, ints) in grind (arith, nat_tests)

far_of : (s k : ℕ) (t : ℤ) → t ≡ pos k -ℤ pos 32 → int_lt (pos s) t ≡ true → s + 32 < k
far_of s k (pos u) is low = let same : u + 32 ≡ k = omega (arith, ints) in let less : s < u = grind (arith, nat_tests) in omega arith
far_of s k (negsuc u) is low = absurd (cc)

near_of : (s k : ℕ) (t : ℤ) → t ≡ pos k -ℤ pos 32 → int_lt (pos s) t ≡ false → k ≤ s + 32
near_of s k (pos u) is high = let same : u + 32 ≡ k = omega (arith, ints) in let most : u ≤ s = grind (arith, nat_tests) in omega arith
near_of s k (negsuc u) is high = omega (arith, ints)

-- the start, if it lies below that, else that
pub start_least : (n s k : ℕ) (t : ℤ) → t ≡ pos k -ℤ pos 32 → int_lt (pos s) t ≡ true → (nat_lt n s && nat_lt (n + MOST_TOLD) k) ≡ int_lt (pos n) (pos s)
start_least n s k t is low =
    let far = far_of s k t is low in
    elim (nat_lt n s) as (λ b. nat_lt n s ≡ b → b && nat_lt (n + MOST_TOLD) k ≡ b) [
      | true ↦ λ less. let further : n + 32 < k = grind (arith, nat_tests) in grind (arith, nat_tests)
      | false ↦ λ most. refl
    ] refl

pub told_least : (n s k : ℕ) (t : ℤ) → t ≡ pos k -ℤ pos 32 → int_lt (pos s) t ≡ false → (nat_lt n s && nat_lt (n + MOST_TOLD) k) ≡ int_lt (pos n) t
told_least n s k t is high =
    let near = near_of s k t is high in
    elim (nat_lt n s) as (λ b. nat_lt n s ≡ b → b && nat_lt (n + MOST_TOLD) k ≡ nat_lt (n + MOST_TOLD) k) [
      | true ↦ λ less. refl
      | false ↦ λ most. let no : nat_lt (n + MOST_TOLD) k ≡ false = grind (arith, nat_tests) in sym no
    ] refl ∙ sym (below_told n k t is)

pub slow_behind : (start clock : ℤ) (s k : ℕ) (least : ℤ) (history : History) (number : ℕ) (clocks : List ℤ) (phase : Phase) → IsLeastSent start clock least
    → start ≡ pos s → clock ≡ pos k → IsSentIn history number clocks phase → model.is_slow s k (phase_of phase) ≡ is_behind least phase
slow_behind start clock s k least history number clocks New low is at h = refl
slow_behind start clock s k least history number clocks (Asked request reached plan) low is at h = refl
slow_behind start clock s k least history number clocks (Live sent plan) low is at h =
    low (nat_abs sent) s k is at ∙ ap (λ s. int_lt s least) (sym h.natural)
slow_behind start clock s k least history number clocks (Ended reason told) low is at h = refl

-- whoever is too slow hasn't left
slow_here : (start clock : ℕ) (phase : model.Phase) → model.is_slow start clock phase ≡ true → model.has_left phase ≡ false
slow_here start clock model.new is = refl
slow_here start clock (model.asked request reached plan) is = refl
slow_here start clock (model.live sent plan) is = refl
slow_here start clock (model.ended reason told) is = refl
slow_here start clock model.gone is = absurd (cc)

module _ (state : model.Room) (table : Sessions) (h : Holds state table) (start clock least : ℤ) (low : IsLeastSent start clock least)
    (is : start ≡ pos (model.start state)) (now : clock ≡ pos (length state.history)) where
  abbrev slow : model.Session → Bool
  slow s = model.is_slow (model.start state) (length state.history) s.phase

  same_test : (key : ℕ) (s : Session) → get table.present key ≡ Some s → slow (session_of s) ≡ is_behind least s.phase
  same_test key s at = slow_behind start clock (model.start state) (length state.history) least state.history s.number s.pushed.items s.phase low is now (h.kept key s at).sent

  -- whoever is too slow is in the table
  found : (number : ℕ) (session : model.Session) → slice_get state.sessions number ≡ Some session → slow session ≡ true
      → (key : ℕ) × (s : Session) × (get table.present key ≡ Some s) × (s.number ≡ number) × (is_behind least s.phase ≡ true)
  found number session at slows =
      let here = h.there number session at (slow_here (model.start state) (length state.history) session.phase slows) in
      let there = h.here here.0 here.1 here.2 in
      let at : slice_get state.sessions here.1.number ≡ Some session = ap (slice_get state.sessions) here.3 ∙ at in
      let it : session ≡ session_of here.1 = cc in
      (here.0, here.1, here.2, here.3, sym (same_test here.0 here.1 here.2) ∙ sym (ap slow it) ∙ slows)

  pub first_of_slow : (key : ℕ) → (first : IsFirstBehind least table key) → model.first_slow state ≡ Some first.session.number
  first_of_slow key first =
      first_passes slow state.sessions first.session.number (session_of first.session) (h.here key first.session first.here)
      (same_test key first.session first.here ∙ first.behind)
      (λ number session at slows.
      let there = found number session at slows in
      let less = first.least there.0 there.1 there.2 there.4 in
      let same = there.3 in
      omega arith)

  pub none_of_slow : ((key : ℕ) (s : Session) → get table.present key ≡ Some s → is_behind least s.phase ≡ false) → model.first_slow state ≡ None
  none_of_slow none =
      first_none slow state.sessions (λ number session at slows.
      let there = found number session at slows in
      let no = none there.0 there.1 there.2 in
      let yes = there.4 in
      absurd (cc))

abbrev lives : model.Session → Bool
lives s = is_live s.phase

-- each end of one that is too slow leaves one live session fewer
one_fewer : (state : model.Room) (n : ℕ) (s : model.Session) → slice_get state.sessions n ≡ Some s → is_live s.phase ≡ true
    → suc (count_by lives (model.close n s (model.ended Slow false) state).sessions) ≡ count_by lives state.sessions
one_fewer state n s at is =
    let t : model.Session = record s { phase = model.ended Slow false } in
    let count : count_by lives (model.close n s (model.ended Slow false) state).sessions ≡ count_by lives (slice_set state.sessions n t) =
    ap (λ xs. count_by lives xs) (closed_sessions n s (model.ended Slow false) state) in
    let sums : count_by lives (slice_set state.sessions n t) + one_if (lives s) ≡ count_by lives state.sessions + 0 = count_set lives state.sessions n s t at in
    let one : one_if (lives s) ≡ 1 = ap one_if is in
    omega arith

-- what is left to do to end the sessions of a room that are too slow, where this is left of it
pub record IsSlowing (state now : model.Room) : Type 0 where
  pub steps : ℕ
  pub same : model.end_slow state ≡ model.without_slow steps now
  pub enough : count_by lives now.sessions ≤ steps

pub slowing_begins : (state : model.Room) → IsSlowing state state
slowing_begins state = record { steps = length state.sessions; same = refl; enough = count_by-le-length lives state.sessions }

pub slowing_goes_on : (state now : model.Room) (n : ℕ) (s : model.Session) → IsSlowing state now → model.first_slow now ≡ Some n → slice_get now.sessions n ≡ Some s
    → IsSlowing state (model.close n s (model.ended Slow false) now)
slowing_goes_on state now n s h first at = step h.steps h.same h.enough
  where
    is : is_live s.phase ≡ true
    is = let live = slow_at now n first in let same : live.0 ≡ s = let here = live.1 in cc in ap lives (sym same) ∙ live.2

    step : (steps : ℕ) → model.end_slow state ≡ model.without_slow steps now → count_by lives now.sessions ≤ steps → IsSlowing state (model.close n s (model.ended Slow false) now)
    step zero same few = absurd (let fewer = one_fewer now n s at is in omega arith)
    step (suc steps) same few = record {
      steps = steps;
      same = same ∙ ap (λ o. option_map_or (λ number. model.without_slow steps (model.close_slow now number)) o now) first ∙ ap (model.without_slow steps) (slow_closing now n s at);
      enough = let fewer = one_fewer now n s at is in omega arith;
    }

pub slowing_ends : (state now : model.Room) → IsSlowing state now → model.first_slow now ≡ None → model.end_slow state ≡ now
slowing_ends state now h none = h.same ∙ left h.steps
  where
    left : (steps : ℕ) → model.without_slow steps now ≡ now
    left zero = refl
    left (suc steps) = ap (λ o. option_map_or (λ number. model.without_slow steps (model.close_slow now number)) o now) none

-- how many sessions of a table are live falls with each that is ended
abbrev pub is_live_slot : Option Session → Bool
is_live_slot slot = option_map_or (λ s. is_live_phase s.phase) slot false

pub fewer_live : (table after : Sessions) (key : ℕ) (s : Session) (reason : EndReason) → get table.present key ≡ Some s → is_live_phase s.phase ≡ true
    → after ≡ with_at key (ended_by reason s) table → count_by is_live_slot after.present.slots < count_by is_live_slot table.present.slots
fewer_live table after key s reason at live is =
    let slots : count_by is_live_slot after.present.slots ≡ count_by is_live_slot (slice_set table.present.slots key (Some (ended_by reason s))) =
    ap (λ t. count_by is_live_slot t.present.slots) is in
    let less = ContainsKey-within table.present key (ap is_some at) in
    let sums : count_by is_live_slot (slice_set table.present.slots key (Some (ended_by reason s))) + one_if (is_live_slot (get table.present key)) ≡ count_by is_live_slot table.present.slots + 0 =
    sum_by-set (λ o. one_if (is_live_slot o)) table.present.slots key (Some (ended_by reason s)) None less in
    let one : one_if (is_live_slot (get table.present key)) ≡ 1 = ap (λ o. one_if (is_live_slot o)) at ∙ ap one_if live in
    omega arith

-- a session that is behind was answered, and isn't ended
pub behind_is_live : (clock : ℤ) (phase : Phase) → is_behind clock phase ≡ true → is_live_phase phase ≡ true
behind_is_live clock New is = is
behind_is_live clock (Asked request reached plan) is = is
behind_is_live clock (Live sent plan) is = refl
behind_is_live clock (Ended reason told) is = is

pub behind_unended : (clock : ℤ) (phase : Phase) → is_behind clock phase ≡ true → is_over (phase_of phase) ≡ false
behind_unended clock New is = refl
behind_unended clock (Asked request reached plan) is = refl
behind_unended clock (Live sent plan) is = refl
behind_unended clock (Ended reason told) is = absurd (cc)

-- what holds of an option's value, and where there is none
pub if_some : {X : Type 0} (o : Option X) (P Q : X → Type 0) → IfSome o P → ((x : X) → P x → Q x) → IfSome o Q
if_some None P Q h f = tt
if_some (Some x) P Q h f = f x h

pub if_none : {X : Type 0} (o : Option X) (P Q : Type 0) → IfNone o P → (P → Q) → IfNone o Q
if_none None P Q h f = f h
if_none (Some x) P Q h f = tt
