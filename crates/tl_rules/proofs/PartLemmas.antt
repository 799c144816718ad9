-- The ids of some parts, by place.
use Rattle.std.proofs.Common.{◌≡◌, ℕ, zero, suc, ◌+◌, ◌-◌, ◌<◌, ◌≤◌, List, [], ◌∷◌, ◌++◌, length, drop, get_or, None, Some, refl, sym, ◌∙◌, ap, arith, length-append}
use Rattle.std.specs.List.{slice_get}
use Rattle.rooms_val.proofs.ListLemmas.{one_off}
use Rattle.tl_rules.specs.Ids.{flat}

-- a part, and those after it
pub flat_off : (parts : List (List (List ℕ))) (i : ℕ) (part : List (List ℕ)) → i < length parts → part ≡ get_or parts i part → flat (drop i parts) ≡ part ++ flat (drop (i + 1) parts)
flat_off parts i part within here = ap flat (one_off parts i part within here)

module _ {X : Type 0} where
  get_front : (xs ys : List X) (i : ℕ) → i < length xs → slice_get (xs ++ ys) i ≡ slice_get xs i
  get_front [] ys i within = absurd (omega arith)
  get_front (x ∷ xs) ys zero within = refl
  get_front (x ∷ xs) ys (suc i) within = get_front xs ys i (omega arith)

  get_back : (xs ys : List X) (i : ℕ) → length xs ≤ i → slice_get (xs ++ ys) i ≡ slice_get ys (i - length xs)
  get_back [] ys i past = ap (slice_get ys) (omega arith)
  get_back (x ∷ xs) ys zero past = absurd (omega arith)
  get_back (x ∷ xs) ys (suc i) past = get_back xs ys i (omega arith) ∙ ap (slice_get ys) (omega arith)

  gets_here : (xs : List X) (i : ℕ) (x : X) → i < length xs → x ≡ get_or xs i x → Some x ≡ slice_get xs i
  gets_here [] i x within is = absurd (omega arith)
  gets_here (y ∷ xs) zero x within is = ap Some is
  gets_here (y ∷ xs) (suc i) x within is = gets_here xs i x (omega arith) is

  -- what is at a place within a list
  pub got_here : (xs : List X) (i : ℕ) (x : X) → Some x ≡ slice_get xs i → x ≡ get_or xs i x
  got_here [] zero x is = cc
  got_here [] (suc i) x is = cc
  got_here (y ∷ xs) zero x is = cc
  got_here (y ∷ xs) (suc i) x is = got_here xs i x is

  -- there is something within a list
  pub no_gap : (xs : List X) (i : ℕ) → None ≡ slice_get xs i → i < length xs → ⊥
  no_gap [] i none within = omega arith
  no_gap (x ∷ xs) zero none within = cc
  no_gap (x ∷ xs) (suc i) none within = no_gap xs i none (omega arith)

  -- lists of a length with the same at each place are the same
  pub same_from_gets : (xs ys : List X) → length xs ≡ length ys → ((k : ℕ) → k < length xs → slice_get xs k ≡ slice_get ys k) → xs ≡ ys
  same_from_gets [] [] size gets = refl
  same_from_gets [] (y ∷ ys) size gets = absurd (omega arith)
  same_from_gets (x ∷ xs) [] size gets = absurd (omega arith)
  same_from_gets (x ∷ xs) (y ∷ ys) size gets =
      let first : x ≡ y = head (gets zero (omega arith)) in
      let rest : xs ≡ ys = same_from_gets xs ys (omega arith) (λ k within. gets (suc k) (omega arith)) in
      λ i. first i ∷ rest i
    where
      head : Some x ≡ Some y → x ≡ y
      head is = cc

module _ (part others : List (List ℕ)) (all : List (List ℕ)) (left place : ℕ) (so_far : slice_get (part ++ others) left ≡ slice_get all place) where
  -- the place is in the part
  pub found_in : (id : List ℕ) → left < length part → id ≡ get_or part left id → Some id ≡ slice_get all place
  found_in id within is = gets_here part left id within is ∙ sym (get_front part others left within) ∙ so_far

  -- the place is after the part
  pub found_after : length part ≤ left → slice_get others (left - length part) ≡ slice_get all place
  found_after past = sym (get_back part others left past) ∙ so_far

-- where as many are left there is one
pub nothing_left : (front others after : List (List ℕ)) (child : List ℕ) (n : ℕ) → front ≡ child ∷ others → n ≡ length (front ++ after) → n ≡ 0 → ⊥
nothing_left front others after child n is size none = omega (arith, ap length is, length-append front after)
