-- What a search finds among rising keys, and what an edit at that place does.
use Rattle.std.proofs.Common.{◌≡◌, ℕ, zero, suc, ◌<◌, ◌+◌, ◌-◌, false, T, List, [], ◌∷◌, length, get_or, set, Some, None, Result, Ok, Err, IfOk, IfErr, Less, Equal, Greater, is_eq, refl, sym, ap, subst, ◌∙◌, arith, inl, inr}
use Rattle.std.specs.List.{insert, remove}
use Rattle.std.specs.List.Sorted.{IsSearchInRange, IsBinarySearchResult, IsSortedBy}
use Rattle.std.specs.Ordering.{is_lt, eq_by_cmp}
use Rattle.std.specs.FinMap.Entries.{below_all}
use Rattle.std.proofs.lemmas.Cmp.{nat_list_cmp_total}
use Rattle.std.proofs.lemmas.List.Sorted.{searchable_from_sorted}
use Rattle.std.proofs.lemmas.Bool.{cases_lt}
use Rattle.std.proofs.lemmas.List.{get_or_default}
use Rattle.rooms_val.specs.Maps.{order, AreRising, value_at, with_key, without_key}
use Rattle.rooms_val.specs.Places.{IsPlace, IsGap}
use Rattle.rooms_val.proofs.MapsLemmas.{first, second, less, flipped}

module _ {X : Type 0} where
  pub below_at : (x : List ℕ) (es : List (List ℕ × X)) → T (below_all order x es) → (i : ℕ) (d : List ℕ × X) → i < length es → order x (get_or es i d).0 ≡ Less
  below_at x [] h i d within = absurd (omega arith)
  below_at x (e ∷ es) h zero d within = less _ (first _ _ h)
  below_at x (e ∷ es) h (suc i) d within = below_at x es (second _ _ h) i d (omega arith)

  rises : (es : List (List ℕ × X)) → AreRising es → (i j : ℕ) (d : List ℕ × X) → i < j → j < length es → order (get_or es i d).0 (get_or es j d).0 ≡ Less
  rises [] h i j d below within = absurd (omega arith)
  rises (e ∷ es) h i zero d below within = absurd (omega arith)
  rises (e ∷ es) h zero (suc j) d below within = below_at e.0 es (first _ _ h) j d (omega arith)
  rises (e ∷ es) h (suc i) (suc j) d below within = rises es (second _ _ h) i j d (omega arith) (omega arith)

  -- where the keys rise, a binary search ends at the key's place or at the gap for it
  pub searched : (es : List (List ℕ × X)) → AreRising es → (key : List ℕ) (r : Result ℕ ℕ) → IsSearchInRange r (length es)
      → IsBinarySearchResult (λ e. order e.0 key) es r → record { found : IfOk r (IsPlace es key); absent : IfErr r (IsGap es key) }
  searched es rising key (Ok p) within equal = record {
    found = record {
      within = within;
      here = λ e. flipped (get_or es p e).0 key Equal (equal e);
      before = λ i e below. sym (nat_list_cmp_total.congr (get_or es p e).0 key (get_or es i e).0 (equal e)) ∙ flipped (get_or es i e).0 (get_or es p e).0 Less (rises es rising i p e below within);
      after = λ i e above here. sym (nat_list_cmp_total.congr (get_or es p e).0 key (get_or es i e).0 (equal e)) ∙ rises es rising p i e above here;
    };
    absent = tt;
  }
  searched es rising key (Err p) within parted =
      let sorted : IsSortedBy (λ a b. is_lt (order a.0 b.0)) es = λ k d low here. ap is_lt (flipped (get_or es k d).0 (get_or es (k + 1) d).0 Less (rises es rising k (k + 1) d (omega arith) here)) in
      let split = parted (searchable_from_sorted nat_list_cmp_total (λ (e : List ℕ × X). e.0) es key sorted) in
      record {
        found = tt;
        absent = record {
          within = within;
          before = λ i e below. flipped (get_or es i e).0 key Less (split.0 i e (omega arith) below);
          after = λ i e above here. flipped (get_or es i e).0 key Greater (split.1 i e above here);
        };
      }

  later_place : (e : List ℕ × X) (es : List (List ℕ × X)) (key : List ℕ) (p : ℕ) → IsPlace (e ∷ es) key (suc p) → IsPlace es key p
  later_place e es key p at = record {
    within = omega (arith, at.within);
    here = at.here;
    before = λ i d below. at.before (suc i) d (omega arith);
    after = λ i d above here. at.after (suc i) d (omega arith) (omega arith);
  }

  later_gap : (e : List ℕ × X) (es : List (List ℕ × X)) (key : List ℕ) (p : ℕ) → IsGap (e ∷ es) key (suc p) → IsGap es key p
  later_gap e es key p at = record {
    within = omega (arith, at.within);
    before = λ i d below. at.before (suc i) d (omega arith);
    after = λ i d above here. at.after (suc i) d (omega arith) (omega arith);
  }

  pub put_in_gap : (es : List (List ℕ × X)) (key : List ℕ) (v : X) (p : ℕ) → IsGap es key p → with_key es key v ≡ insert es p (key, v)
  put_in_gap [] key v zero at = refl
  put_in_gap [] key v (suc p) at = absurd (omega (arith, at.within))
  put_in_gap (e ∷ es) key v zero at = rw (at.after 0 e (omega arith) (omega arith))
  put_in_gap (e ∷ es) key v (suc p) at = rw (at.before 0 e (omega arith)) (ap (λ rest. e ∷ rest) (put_in_gap es key v p (later_gap e es key p at)))

  pub put_at_place : (es : List (List ℕ × X)) (key : List ℕ) (v : X) (p : ℕ) (d : List ℕ × X) → IsPlace es key p → with_key es key v ≡ set es p ((get_or es p d).0, v)
  put_at_place [] key v p d at = absurd (omega (arith, at.within))
  put_at_place (e ∷ es) key v zero d at = rw (at.here e)
  put_at_place (e ∷ es) key v (suc p) d at = rw (at.before 0 e (omega arith)) (ap (λ rest. e ∷ rest) (put_at_place es key v p d (later_place e es key p at)))

  pub find_at_place : (es : List (List ℕ × X)) (key : List ℕ) (p : ℕ) (d : List ℕ × X) → IsPlace es key p → value_at es key ≡ Some (get_or es p d).1
  find_at_place [] key p d at = absurd (omega (arith, at.within))
  find_at_place (e ∷ es) key zero d at = rw (at.here e)
  find_at_place (e ∷ es) key (suc p) d at = rw (at.before 0 e (omega arith)) (find_at_place es key p d (later_place e es key p at))

  -- no key ties with the one that is looked for
  abbrev Untied : List (List ℕ × X) → List ℕ → Type 0
  Untied es key = (i : ℕ) (d : List ℕ × X) → i < length es → eq_by_cmp order key (get_or es i d).0 ≡ false

  find_untied : (es : List (List ℕ × X)) (key : List ℕ) → Untied es key → value_at es key ≡ None
  find_untied [] key none = refl
  find_untied (e ∷ es) key none = rw (none 0 e (omega arith)) (find_untied es key (λ i d within. none (suc i) d (omega arith)))

  where_untied : (es : List (List ℕ × X)) (key : List ℕ) → Untied es key → without_key es key ≡ es
  where_untied [] key none = refl
  where_untied (e ∷ es) key none = rw (none 0 e (omega arith)) (ap (λ rest. e ∷ rest) (where_untied es key (λ i d within. none (suc i) d (omega arith))))

  untied_gap : (es : List (List ℕ × X)) (key : List ℕ) (p : ℕ) → IsGap es key p → Untied es key
  untied_gap es key p at i d within = elim (cases_lt i p) [ inl below ↦ ap is_eq (at.before i d below) | inr above ↦ ap is_eq (at.after i d above within) ]

  pub find_in_gap : (es : List (List ℕ × X)) (key : List ℕ) (p : ℕ) → IsGap es key p → value_at es key ≡ None
  find_in_gap es key p at = find_untied es key (untied_gap es key p at)

  pub where_in_gap : (es : List (List ℕ × X)) (key : List ℕ) (p : ℕ) → IsGap es key p → without_key es key ≡ es
  where_in_gap es key p at = where_untied es key (untied_gap es key p at)

  pub where_at_place : (es : List (List ℕ × X)) (key : List ℕ) (p : ℕ) → IsPlace es key p → without_key es key ≡ remove es p
  where_at_place [] key p at = absurd (omega (arith, at.within))
  where_at_place (e ∷ es) key zero at = rw (at.here e) (where_untied es key (λ i d within. ap is_eq (at.after (suc i) d (omega arith) (omega arith))))
  where_at_place (e ∷ es) key (suc p) at = rw (at.before 0 e (omega arith)) (ap (λ rest. e ∷ rest) (where_at_place es key p (later_place e es key p at)))

  -- where the last key is below the one that is looked for, it would go to the end
  pub gap_at_end : (es : List (List ℕ × X)) → AreRising es → (key : List ℕ) (x : List ℕ × X) → 0 < length es → x ≡ get_or es (length es - 1) x → T (is_lt (order x.0 key)) → IsGap es key (length es)
  gap_at_end es rising key x some last below = record {
    within = omega arith;
    before = λ i d lower. flipped (get_or es i d).0 key Less (elim (cases_lt i (length es - 1)) [
      | inl earlier ↦
          let next = rises es rising i (length es - 1) d earlier (omega arith) in
          nat_list_cmp_total.trans (get_or es i d).0 (get_or es (length es - 1) d).0 key next (subst (λ y. order y.0 key ≡ Less) (last ∙ get_or_default es (length es - 1) x d (omega arith)) (less _ below))
      | inr at_end ↦
          let same : i ≡ length es - 1 = omega arith in
          rw same (subst (λ y. order y.0 key ≡ Less) (last ∙ get_or_default es (length es - 1) x d (omega arith)) (less _ below))
    ]);
    after = λ i d above within. absurd (omega arith);
  }
