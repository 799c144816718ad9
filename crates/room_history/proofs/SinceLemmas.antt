-- Which ids changed after a clock, as what is kept tells it.
use Rattle.std.proofs.Common.{◌≡◌, ℕ, ◌≤◌, nat_lt, ℤ, pos, Bool, true, false, not, List, [], ◌∷◌, ◌++◌, map, filter, Option, Some, None, is_some, refl, sym, ap, subst, ◌∙◌, arith}
use Rattle.std.specs.Prelude.{is_none, IsPermutation}
use Rattle.std.proofs.lemmas.Bool.Decides.{nat_tests}
use Rattle.std.proofs.lemmas.List.{map-append}
use Rattle.std.proofs.lemmas.List.Elements.{filter-append}
use Rattle.std.proofs.lemmas.List.Sorted.{IsPermutation-map, IsPermutation-filter_both}
use Rattle.change_list.specs.declared.entries.Change.{Change}
use Rattle.change_list.specs.Changes.{listed, is_after}
use Rattle.rooms_val.specs.Maps.{value_at}
use Rattle.room_model.specs.Histories.{History, records_of, last_clocks, changed_after, dead, start_of}
use Rattle.room_model.proofs.HistoryLemmas.{filter_twice, filter_through}
use Rattle.room_history.specs.Keeps.{Keeps, change_at, present_ids}
use Rattle.room_history.specs.declared.kept.Kept.{Kept}
use Rattle.room_history.proofs.FilterLemmas.{filter-map}

-- an id with a clock
abbrev pub at_clock : List ℕ × ℕ → List ℕ × ℤ
at_clock p = (p.0, pos p.1)

abbrev pub id_clock : Change → List ℕ × ℤ
id_clock c = (c.id, c.clock)

seen_again : (live : Bool) (ps : List (List ℕ × ℕ)) → map id_clock (map (change_at live) ps) ≡ map at_clock ps
seen_again live [] = refl
seen_again live (p ∷ ps) = ap (λ r. (p.0, pos p.1) ∷ r) (seen_again live ps)

other : {X : Type 0} (o : Option X) → is_none o ≡ not (is_some o)
other None = refl
other (Some x) = refl

module _ (first : ℕ) (history : History) (kept : Kept) (known : ℕ) (keeps : Keeps first history kept) (from : start_of first history ≤ known) where
  abbrev There : List ℕ × ℕ → Bool
  There p = is_some (value_at (records_of history) p.0)

  abbrev Gone : List ℕ × ℕ → Bool
  Gone p = is_none (value_at (records_of history) p.0)

  abbrev Late : List ℕ × ℕ → Bool
  Late p = nat_lt known p.1

  part : (live : Bool) (ps : List (List ℕ × ℕ)) → map id_clock (filter (is_after (pos known)) (map (change_at live) ps)) ≡ map at_clock (filter Late ps)
  part live ps = ap (map id_clock) (filter-map (is_after (pos known)) (change_at live) ps) ∙ seen_again live (filter Late ps)

  those : map id_clock (filter (is_after (pos known)) (listed kept.changes)) ≡ map at_clock (filter There (changed_after known history) ++ filter Gone (changed_after known history))
  those =
      let late : filter Late (dead first history) ≡ filter Gone (changed_after known history) =
      filter_twice Late Gone (filter (λ p. nat_lt (start_of first history) p.1) (last_clocks history))
      ∙ ap (filter Gone) (filter_through Late (λ p. nat_lt (start_of first history) p.1) (λ p is. grind (arith, nat_tests)) (last_clocks history)) in
      (λ i. map id_clock (filter (is_after (pos known)) (keeps.live i ++ keeps.dead i)))
      ∙ ap (map id_clock) (filter-append (is_after (pos known)) (map (change_at true) (present_ids history)) (map (change_at false) (dead first history)))
      ∙ map-append id_clock (filter (is_after (pos known)) (map (change_at true) (present_ids history))) (filter (is_after (pos known)) (map (change_at false) (dead first history)))
      ∙ (λ i. part true (present_ids history) i ++ part false (dead first history) i)
      ∙ (λ i. map at_clock (filter_twice Late There (last_clocks history) i) ++ map at_clock (late i))
      ∙ sym (map-append at_clock (filter There (changed_after known history)) (filter Gone (changed_after known history)))

  -- they are those whose last entry lies above the clock
  pub changed : IsPermutation {X = List ℕ × ℤ} (map (λ p. (p.0, pos p.1)) (changed_after known history)) (map (λ c. (c.id, c.clock)) (filter (is_after (pos known)) (listed kept.changes)))
  changed =
      subst (λ (xs : List (List ℕ × ℤ)). IsPermutation (map at_clock (changed_after known history)) xs) (sym those)
      (IsPermutation-map at_clock (changed_after known history) (filter There (changed_after known history) ++ filter Gone (changed_after known history))
      (IsPermutation-filter_both There Gone (λ p. other (value_at (records_of history) p.0)) (changed_after known history)))
