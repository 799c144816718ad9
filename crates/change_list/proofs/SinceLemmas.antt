-- What is gathered from both lists, sorted.
use Rattle.std.proofs.Common.{◌≡◌, ℕ, ◌+◌, ℤ, List, ◌++◌, length, filter, reverse, sym, ap, subst, ◌∙◌, arith}
use Rattle.std.specs.Prelude.{IsPermutation}
use Rattle.std.proofs.lemmas.List.{length-append, length-reverse}
use Rattle.std.proofs.lemmas.List.Elements.{filter-append}
use Rattle.std.proofs.lemmas.List.Sorted.{IsPermutation-append, IsPermutation-reverse, IsPermutation-trans, length_permutation}
use Rattle.change_list.specs.declared.entries.Change.{Change}
use Rattle.change_list.specs.Changes.{is_after}

module _ (live dead one two answer : List Change) (clock : ℤ) (first : one ≡ reverse (filter (is_after clock) live)) (second : two ≡ one ++ reverse (filter (is_after clock) dead)) (sorted : IsPermutation two answer) where
  pub since_same : IsPermutation (filter (is_after clock) (live ++ dead)) answer
  since_same =
      let left : List Change = filter (is_after clock) live in
      let right : List Change = filter (is_after clock) dead in
      let gathered : IsPermutation (left ++ right) two = subst (λ (cs : List Change). IsPermutation (left ++ right) cs) (sym (second ∙ ap (λ cs. cs ++ reverse right) first)) (IsPermutation-append left (reverse left) right (reverse right) (IsPermutation-reverse left) (IsPermutation-reverse right)) in
      subst (λ (cs : List Change). IsPermutation cs answer) (sym (filter-append (is_after clock) live dead)) (IsPermutation-trans (left ++ right) two answer gathered sorted)

  pub since_counted : (start after one_more : ℕ) → one_more ≡ start + 1 + length (filter (is_after clock) live) → after ≡ one_more + length (filter (is_after clock) dead) → after ≡ start + (length answer + 1)
  since_counted start after one_more a b =
      omega (arith, length_permutation two answer sorted, ap length second, length-append one (reverse (filter (is_after clock) dead)), ap length first, length-reverse (filter (is_after clock) live), length-reverse (filter (is_after clock) dead))
