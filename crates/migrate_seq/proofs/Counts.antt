-- What sorting by id leaves: each sequence as often as it stood.
use Rattle.std.proofs.Common.{◌≡◌, ℕ, ◌+◌, Bool, true, false, cond, List, [], ◌∷◌, fold, sym, ◌∙◌, arith}
use Rattle.std.specs.Prelude.{count_by}
use Rattle.std.specs.Ordering.{nat_cmp, is_lt}
use Rattle.std.specs.Cmp.Lexicographic.{slice_cmp}
use Rattle.migrate_steps.specs.declared.migration.Sequence.{Sequence}
use Rattle.migrate_seq.specs.Builds.{inserted, by_id}
use Rattle.migrate_seq.proofs.OrderLemmas.{count, count-is}

module _ (test : Sequence → Bool) where
  count-inserted : (s : Sequence) (ts : List Sequence) → count test (inserted s ts) ≡ cond (test s) 1 0 + count test ts
  count-inserted s [] = omega arith
  count-inserted s (t ∷ ts) = elim (is_lt (slice_cmp nat_cmp s.id t.id)) as (λ b. count test (cond b (s ∷ t ∷ ts) (t ∷ inserted s ts)) ≡ cond (test s) 1 0 + (cond (test t) 1 0 + count test ts)) [
    | true ↦ omega arith
    | false ↦ let rest = count-inserted s ts in omega arith
  ]

  count-folded : (list sorted : List Sequence) → count test (fold (λ ts s. inserted s ts) sorted list) ≡ count test sorted + count test list
  count-folded [] sorted = omega arith
  count-folded (s ∷ list) sorted =
      let rest = count-folded list (inserted s sorted) in
      let here = count-inserted s sorted in
      omega arith

  pub count-by_id : (list : List Sequence) → count_by test (by_id list) ≡ count_by test list
  count-by_id list =
      let all : count test (by_id list) ≡ count test list = let both = count-folded list [] in omega arith in
      count-is test (by_id list) ∙ all ∙ sym (count-is test list)
