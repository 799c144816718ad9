-- One pass over two lists of rising keys finds out whether one lacks a key of the other.
use Rattle.std.proofs.Common.{◌≡◌, ℕ, suc, zero, ◌<◌, ◌≤◌, Bool, true, false, ◌||◌, not, cond, T, List, [], ◌∷◌, length, drop, get_or, Some, None, Less, is_eq, refl, sym, ap, subst, ◌∙◌, arith}
use Rattle.std.specs.Option.{option_map_or}
use Rattle.std.specs.Prelude.{nat_lt}
use Rattle.std.specs.Ordering.{is_lt}
use Rattle.std.specs.Str.{bytes_eq}
use Rattle.std.specs.FinMap.Entries.{is_sorted, below_all}
use Rattle.std.proofs.lemmas.Bool.{lt-ltb, le-ltb, ltb-true, ltb-false}
use Rattle.std.proofs.lemmas.Cmp.{nat_list_cmp_total}
use Rattle.std.proofs.lemmas.Map.Text.{is_eq-slice_cmp}
use Rattle.std.proofs.lemmas.Slice.Eq.{bytes_eq-Decides}
use Rattle.rooms_val.specs.Maps.{order, keys_of}
use Rattle.rooms_val.proofs.MapsLemmas.{first, second, less, ties_flip}
use Rattle.rooms_val.proofs.Truths.{and_holds}
use Rattle.record_valid.specs.Parts.{is_listed, lacks, behind}
use Rattle.index_keys.proofs.BetweenLemmas.{same_lists as same}

-- texts of which one is below the other are not the same
apart : (a b : List ℕ) → order a b ≡ Less → bytes_eq a b ≡ false
apart a b below = sym (is_eq-slice_cmp a b) ∙ ap is_eq below

module _ {X : Type 0} where
  pub behind-at : (es : List (List ℕ × X)) (i : ℕ) (k : List ℕ) (e : List ℕ × X) → i < length es → e ≡ get_or es i e → behind (drop i es) k ≡ cond (bytes_eq e.0 k) (Some (drop (suc i) es)) (behind (drop (suc i) es) k)
  behind-at [] i k e within is = absurd (omega arith)
  behind-at (x ∷ es) zero k e within is = ap (λ y. cond (bytes_eq y.0 k) (Some es) (behind es k)) (sym is)
  behind-at (x ∷ es) (suc i) k e within is = behind-at es i k e (omega arith) is

  missed : (gs : List (List ℕ × X)) (k : List ℕ) → behind gs k ≡ None → is_listed (keys_of gs) k ≡ false
  missed [] k none = refl
  missed (g ∷ gs) k none =
      elim (bytes_eq g.0 k) as (λ b. cond b (Some gs) (behind gs k) ≡ None → (b || is_listed (keys_of gs) k) ≡ false) [
        | true ↦ λ h. (cc)
        | false ↦ λ h. missed gs k h
      ] none

  -- where the key k stands among rising keys gs, before those of rest
  record IsBefore (gs : List (List ℕ × X)) (k : List ℕ) (rest : List (List ℕ × X)) : Type 0 where
    listed : is_listed (keys_of gs) k ≡ true
    rises : T (is_sorted order rest)
    above : (x : List ℕ) → T (below_all order x gs) → order x k ≡ Less
    later : (q : List ℕ) → order k q ≡ Less → is_listed (keys_of gs) q ≡ is_listed (keys_of rest) q

  hit : (gs : List (List ℕ × X)) (k : List ℕ) (rest : List (List ℕ × X)) → behind gs k ≡ Some rest → T (is_sorted order gs) → IsBefore gs k rest
  hit [] k rest is rising = (cc)
  hit (g ∷ gs) k rest is rising =
      elim (bytes_eq g.0 k) as (λ b. bytes_eq g.0 k ≡ b → cond b (Some gs) (behind gs k) ≡ Some rest → IsBefore (g ∷ gs) k rest) [
        | true ↦ λ found here.
            let k_is : g.0 ≡ k = same g.0 k found in
            let rest_is : gs ≡ rest = (cc) in
            record {
              listed = ap (λ b. b || is_listed (keys_of gs) k) found;
              rises = subst (λ es. T (is_sorted order es)) rest_is (second _ _ rising);
              above = λ x h. subst (λ y. order x y ≡ Less) k_is (less _ (first _ _ h));
              later = λ q below. ap (λ b. b || is_listed (keys_of gs) q) (apart g.0 q (subst (λ y. order y q ≡ Less) (sym k_is) below)) ∙ ap (λ es. is_listed (keys_of es) q) rest_is;
            }
        | false ↦ λ other here.
            let next = hit gs k rest here (second _ _ rising) in
            record {
              listed = ap (λ b. b || is_listed (keys_of gs) k) other ∙ next.listed;
              rises = next.rises;
              above = λ x h. next.above x (second _ _ h);
              later = λ q below. ap (λ b. b || is_listed (keys_of gs) q) (apart g.0 q (nat_list_cmp_total.trans g.0 k q (next.above g.0 (first _ _ rising)) below)) ∙ next.later q below;
            }
      ] refl is

module _ {W G : Type 0} where
  -- what the pass answers, as it goes down both lists
  abbrev pub misses : List (List ℕ × W) → List (List ℕ × G) → Bool
  misses [] gs = false
  misses (w ∷ ws) gs = option_map_or (λ rest. misses ws rest) (behind gs w.0) true

  pub misses-at : (ws : List (List ℕ × W)) (gs : List (List ℕ × G)) (i : ℕ) (w : List ℕ × W) → i < length ws → w ≡ get_or ws i w → misses (drop i ws) gs ≡ option_map_or (λ rest. misses (drop (suc i) ws) rest) (behind gs w.0) true
  misses-at [] gs i w within is = absurd (omega arith)
  misses-at (x ∷ ws) gs zero w within is = ap (λ y. option_map_or (λ rest. misses ws rest) (behind gs y.0) true) (sym is)
  misses-at (x ∷ ws) gs (suc i) w within is = misses-at ws gs i w (omega arith) is

  pub misses-end : (ws : List (List ℕ × W)) (gs : List (List ℕ × G)) (i : ℕ) → length ws ≤ i → misses (drop i ws) gs ≡ false
  misses-end [] gs zero past = refl
  misses-end [] gs (suc i) past = refl
  misses-end (w ∷ ws) gs zero past = absurd (omega arith)
  misses-end (w ∷ ws) gs (suc i) past = misses-end ws gs i (omega arith)

  narrowed : (ws : List (List ℕ × W)) (gs rest : List (List ℕ × G)) (k : List ℕ) → IsBefore gs k rest → T (below_all order k ws) → lacks (keys_of ws) (keys_of rest) ≡ lacks (keys_of ws) (keys_of gs)
  narrowed [] gs rest k at above = refl
  narrowed (w ∷ ws) gs rest k at above = λ i. not (sym (at.later w.0 (less _ (first _ _ above))) i) || narrowed ws gs rest k at (second _ _ above) i

  pub misses-lacks : (ws : List (List ℕ × W)) (gs : List (List ℕ × G)) → T (is_sorted order ws) → T (is_sorted order gs) → misses ws gs ≡ lacks (keys_of ws) (keys_of gs)
  misses-lacks [] gs wanted given = refl
  misses-lacks (w ∷ ws) gs wanted given =
      elim (behind gs w.0) as (λ b. behind gs w.0 ≡ b → option_map_or (λ rest. misses ws rest) b true ≡ (not (is_listed (keys_of gs) w.0) || lacks (keys_of ws) (keys_of gs))) [
        | None ↦ λ none. sym (ap (λ b. not b || lacks (keys_of ws) (keys_of gs)) (missed gs w.0 none))
        | Some rest ↦ λ is.
            let at = hit gs w.0 rest is given in
            misses-lacks ws rest (second _ _ wanted) at.rises ∙ narrowed ws gs rest w.0 at (first _ _ wanted) ∙ sym (ap (λ b. not b || lacks (keys_of ws) (keys_of gs)) at.listed)
      ] refl

-- a key above another isn't the first of a list that begins with that one
above_listed : {X : Type 0} (es : List (List ℕ × X)) (k : List ℕ) → T (below_all order k es) → is_listed (keys_of es) k ≡ false
above_listed [] k above = refl
above_listed (e ∷ es) k above = ap (λ b. b || is_listed (keys_of es) k) (sym (bytes_flip k e.0) ∙ apart k e.0 (less _ (first _ _ above))) ∙ above_listed es k (second _ _ above)
  where
    bytes_flip : (a b : List ℕ) → bytes_eq a b ≡ bytes_eq b a
    bytes_flip a b = sym (is_eq-slice_cmp a b) ∙ ties_flip a b ∙ is_eq-slice_cmp b a

below_first : {X : Type 0} (k : List ℕ) (e : List ℕ × X) (es : List (List ℕ × X)) → order k e.0 ≡ Less → T (is_sorted order (e ∷ es)) → T (below_all order k (e ∷ es))
below_first {X = X} k e es below rising = and_holds _ _ (subst (λ o. T (is_lt o)) (sym below) tt) (below_rest es (first _ _ rising))
  where
    below_rest : (fs : List (List ℕ × X)) → T (below_all order e.0 fs) → T (below_all order k fs)
    below_rest [] h = tt
    below_rest (f ∷ fs) h = and_holds _ _ (subst (λ o. T (is_lt o)) (sym (nat_list_cmp_total.trans k e.0 f.0 below (less _ (first _ _ h)))) tt) (below_rest fs (second _ _ h))

module _ {W G : Type 0} where
  -- where no key is missing, there are as many or more, and one is too many exactly where there are more
  pub extra-law : (ws : List (List ℕ × W)) (gs : List (List ℕ × G)) → T (is_sorted order ws) → T (is_sorted order gs) → lacks (keys_of ws) (keys_of gs) ≡ false
      → (length ws ≤ length gs) × (lacks (keys_of gs) (keys_of ws) ≡ nat_lt (length ws) (length gs))
  extra-law [] [] wanted given all = (omega arith, refl)
  extra-law [] (g ∷ gs) wanted given all = (omega arith, sym (lt-ltb 0 (suc (length gs)) (omega arith)))
  extra-law (w ∷ ws) [] wanted given all = (cc)
  extra-law (w ∷ ws) (g ∷ gs) wanted given all =
      elim (bytes_eq g.0 w.0) as (λ b. bytes_eq g.0 w.0 ≡ b → (not (b || is_listed (keys_of gs) w.0) || lacks (keys_of ws) (keys_of (g ∷ gs))) ≡ false → (suc (length ws) ≤ suc (length gs)) × (lacks (keys_of (g ∷ gs)) (keys_of (w ∷ ws)) ≡ nat_lt (suc (length ws)) (suc (length gs)))) [
        | true ↦ λ same rest.
            let here : g.0 ≡ w.0 = (bytes_eq-Decides g.0 w.0).0 same in
            let above_ws : T (below_all order g.0 ws) = subst (λ k. T (below_all order k ws)) (sym here) (first _ _ wanted) in
            let above_gs : T (below_all order w.0 gs) = subst (λ k. T (below_all order k gs)) here (first _ _ given) in
            let next = extra-law ws gs (second _ _ wanted) (second _ _ given) (narrowed ws (g ∷ gs) gs g.0 (hit (g ∷ gs) g.0 gs (found_first g gs) given) above_ws ∙ rest) in (
              omega (arith, next.0),
              ap (λ b. not (b || is_listed (keys_of ws) g.0) || lacks (keys_of gs) (keys_of (w ∷ ws))) ((bytes_eq-Decides w.0 g.0).1 (sym here))
                  ∙ sym (narrowed gs (w ∷ ws) ws w.0 (hit (w ∷ ws) w.0 ws (found_first w ws) wanted) above_gs) ∙ next.1 ∙ both_less (length ws) (length gs),
            )
        | false ↦ λ other rest.
            let listed : is_listed (keys_of gs) w.0 ≡ true = first_of (is_listed (keys_of gs) w.0) _ rest in
            let below : order g.0 w.0 ≡ Less = below_listed gs w.0 g.0 (first _ _ given) listed in
            let under : T (below_all order g.0 (w ∷ ws)) = below_first g.0 w ws below wanted in
            let next = extra-law (w ∷ ws) gs wanted (second _ _ given) (narrowed (w ∷ ws) (g ∷ gs) gs g.0 (hit (g ∷ gs) g.0 gs (found_first g gs) given) under ∙ all) in (
              omega (arith, next.0),
              ap (λ b. not b || lacks (keys_of gs) (keys_of (w ∷ ws))) (above_listed (w ∷ ws) g.0 under) ∙ true_less (length ws) (length gs) next.0,
            )
      ] refl all
    where
      found_first : {X : Type 0} (e : List ℕ × X) (es : List (List ℕ × X)) → behind (e ∷ es) e.0 ≡ Some es
      found_first e es = ap (λ b. cond b (Some es) (behind es e.0)) ((bytes_eq-Decides e.0 e.0).1 refl)

      first_of : (a b : Bool) → (not a || b) ≡ false → a ≡ true
      first_of true b h = refl
      first_of false b h = (cc)

      below_listed : {X : Type 0} (es : List (List ℕ × X)) (k q : List ℕ) → T (below_all order q es) → is_listed (keys_of es) k ≡ true → order q k ≡ Less
      below_listed [] k q above is = (cc)
      below_listed (e ∷ es) k q above is =
          elim (bytes_eq e.0 k) as (λ b. bytes_eq e.0 k ≡ b → (b || is_listed (keys_of es) k) ≡ true → order q k ≡ Less) [
            | true ↦ λ same _. subst (λ x. order q x ≡ Less) ((bytes_eq-Decides e.0 k).0 same) (less _ (first _ _ above))
            | false ↦ λ other later. below_listed es k q (second _ _ above) later
          ] refl is

      true_less : (a b : ℕ) → suc a ≤ b → true ≡ nat_lt (suc a) (suc b)
      true_less a b le = sym (lt-ltb (suc a) (suc b) (omega (arith, le)))

      both_less : (a b : ℕ) → nat_lt a b ≡ nat_lt (suc a) (suc b)
      both_less a b = elim (nat_lt a b) as (λ x. nat_lt a b ≡ x → x ≡ nat_lt (suc a) (suc b)) [
        | true ↦ λ h. sym (lt-ltb (suc a) (suc b) (omega (arith, ltb-true a b h)))
        | false ↦ λ h. sym (le-ltb (suc a) (suc b) (omega (arith, ltb-false a b h)))
      ] refl
