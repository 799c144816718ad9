-- What a pruning leaves of the ids that aren't there.
use Rattle.std.proofs.Common.{◌≡◌, ℕ, zero, suc, ◌-◌, ◌≤◌, nat_lt, nat_le, pos, Bool, true, false, cond, not, List, [], ◌∷◌, length, map, filter, slice_get, get_or, refl, sym, ap, ◌∙◌, arith}
use Rattle.std.specs.Prelude.{is_none}
use Rattle.std.specs.Option.{option_map_or}
use Rattle.std.proofs.lemmas.Bool.Decides.{nat_tests}
use Rattle.std.proofs.lemmas.List.{length-map}
use Rattle.change_list.specs.Changes.{blank, is_after, next_start, next_dead}
use Rattle.rooms_val.specs.Maps.{value_at}
use Rattle.room_model.specs.Histories.{History, records_of, last_clocks, absent_after, start_after, clock_at}
use Rattle.room_model.specs.declared.limits.TheConstants.{MOST_DEAD, KEPT_DEAD}
use Rattle.room_model.proofs.HistoryLemmas.{filter_twice, filter_through}
use Rattle.room_history.specs.Keeps.{change_at}
use Rattle.room_history.proofs.FilterLemmas.{filter-map}

-- the clock of the change at a place
clock-place : (live : Bool) (ids : List (List ℕ × ℕ)) (k : ℕ) → (get_or (map (change_at live) ids) k blank).clock ≡ pos (option_map_or (λ p. p.1) (slice_get ids k) 0)
clock-place live [] k = refl
clock-place live (p ∷ ids) zero = refl
clock-place live (p ∷ ids) (suc k) = clock-place live ids k

not_less : (m n : ℕ) → nat_lt m n ≡ not (nat_le n m)
not_less m n = grind (arith, nat_tests)

module _ (start : ℕ) (history : History) where
  abbrev Absent : List (List ℕ × ℕ)
  Absent = absent_after start history

  -- the absent ids above a later clock are those of the absent ones that lie above it
  absent_later : (later : ℕ) → start ≤ later → filter (λ p. nat_lt later p.1) Absent ≡ absent_after later history
  absent_later later less =
      filter_twice (λ p. nat_lt later p.1) (λ p. is_none (value_at (records_of history) p.0)) (filter (λ p. nat_lt start p.1) (last_clocks history))
      ∙ ap (filter (λ p. is_none (value_at (records_of history) p.0)))
      (filter_through (λ p. nat_lt later p.1) (λ p. nat_lt start p.1) (λ p is. grind (arith, nat_tests)) (last_clocks history))

  pub pruned_start : next_start MOST_DEAD KEPT_DEAD (pos start) (map (change_at false) (absent_after start history)) ≡ pos (start_after start (absent_after start history))
  pruned_start =
      let dead = map (change_at false) Absent in
      ap (λ n. cond (nat_lt MOST_DEAD n) (get_or dead (n - KEPT_DEAD - 1) blank).clock (pos start)) (length-map Absent (change_at false))
      ∙ ap (λ b. cond b (get_or dead (length Absent - KEPT_DEAD - 1) blank).clock (pos start)) (not_less MOST_DEAD (length Absent))
      ∙ elim (nat_le (length Absent) MOST_DEAD) as (λ b. cond (not b) (get_or dead (length Absent - KEPT_DEAD - 1) blank).clock (pos start) ≡ pos (cond b start (clock_at (length Absent - KEPT_DEAD) Absent))) [
        | true ↦ refl
        | false ↦ clock-place false Absent (length Absent - KEPT_DEAD - 1)
      ]

  pub pruned_dead : start ≤ start_after start (absent_after start history) → next_dead MOST_DEAD KEPT_DEAD (pos start) (map (change_at false) (absent_after start history))
      ≡ map (change_at false) (absent_after (start_after start (absent_after start history)) history)
  pruned_dead above =
      let dead = map (change_at false) Absent in
      let later = start_after start Absent in
      let next = next_start MOST_DEAD KEPT_DEAD (pos start) dead in
      let cut : filter (is_after next) dead ≡ map (change_at false) (absent_after later history) =
      ap (λ z. filter (is_after z) dead) pruned_start ∙ filter-map (is_after (pos later)) (change_at false) Absent ∙ ap (map (change_at false)) (absent_later later above) in
      ap (λ n. cond (nat_lt MOST_DEAD n) (filter (is_after next) dead) dead) (length-map Absent (change_at false))
      ∙ ap (λ b. cond b (filter (is_after next) dead) dead) (not_less MOST_DEAD (length Absent))
      ∙ elim (nat_le (length Absent) MOST_DEAD) as (λ b. nat_le (length Absent) MOST_DEAD ≡ b → cond (not b) (filter (is_after next) dead) dead ≡ map (change_at false) (absent_after later history)) [
        | true ↦ λ is. ap (λ b. map (change_at false) (absent_after (cond b start (clock_at (length Absent - KEPT_DEAD) Absent)) history)) (sym is)
        | false ↦ λ is. cut
      ] refl
