-- Which numbers a list has, and lists without one.
use Rattle.std.proofs.Common.{◌≡◌, ◌≢◌, ◌⊎◌, ℕ, zero, suc, ◌<◌, ◌≤◌, Bool, true, false, not, cond, eqb, List, [], ◌∷◌, ◌++◌, length, get_or, map, Option, Some, None, Contains, refl, sym, ap, ◌∙◌, subst, inl, inr, arith, eqb-true, eq-eqb, ne_eqb, rules}
use Rattle.std.proofs.lemmas.Bool.{false≢true, cases_lt}
use Rattle.std.proofs.lemmas.List.{get_or_past, get_or-map, length-map}
use Rattle.std.specs.List.{IsDistinct, AllByRecursion}
use Rattle.std.proofs.lemmas.List.Elements.{filter-append}
use Rattle.std.proofs.lemmas.Map.Keys.{IsDistinct-cons, IsDistinct-from_apart}
use Rattle.std.proofs.lemmas.Map.Views.{Contains-from_any}
use Rattle.std.proofs.lemmas.Map.Steps.{length-le_from_distinct_below}
use Rattle.links_core.specs.Lists.{IsApart, IsLinked, list_at, without, first_or, last_or}

pub here : (x : ℕ) (xs : List ℕ) → Contains (x ∷ xs) x
here x xs = (0, omega arith, refl)

pub there : (x y : ℕ) (xs : List ℕ) → Contains xs x → Contains (y ∷ xs) x
there x y xs p = (suc p.0, omega (arith, p.1), p.2)

pub none_in_nil : (x : ℕ) → Contains [] x → ⊥
none_in_nil x p = omega (arith, p.1)

pub contains_cases : (x y : ℕ) (xs : List ℕ) → Contains (y ∷ xs) x → (y ≡ x) ⊎ Contains xs x
contains_cases x y xs p = at p.0 p.1 p.2
  where
    at : (k : ℕ) → k < suc (length xs) → get_or (y ∷ xs) k x ≡ x → (y ≡ x) ⊎ Contains xs x
    at zero within found = inl found
    at (suc k) within found = inr (k, omega arith, found)

pub in_left : (x : ℕ) (xs ys : List ℕ) → Contains xs x → Contains (xs ++ ys) x
in_left x [] ys p = absurd (none_in_nil x p)
in_left x (y ∷ xs) ys p =
    elim (contains_cases x y xs p) [
      | inl same ↦ subst (λ (w : ℕ). Contains (y ∷ (xs ++ ys)) w) same (here y (xs ++ ys))
      | inr rest ↦ there x y (xs ++ ys) (in_left x xs ys rest)
    ]

pub in_right : (x : ℕ) (xs ys : List ℕ) → Contains ys x → Contains (xs ++ ys) x
in_right x [] ys p = p
in_right x (y ∷ xs) ys p = there x y (xs ++ ys) (in_right x xs ys p)

pub in_middle : (x : ℕ) (xs ys : List ℕ) → Contains (xs ++ x ∷ ys) x
in_middle x xs ys = in_right x xs (x ∷ ys) (here x ys)

pub in_either : (x : ℕ) (xs ys : List ℕ) → Contains (xs ++ ys) x → Contains xs x ⊎ Contains ys x
in_either x [] ys p = inr p
in_either x (y ∷ xs) ys p =
    elim (contains_cases x y (xs ++ ys) p) [
      | inl same ↦ inl (subst (λ (w : ℕ). Contains (y ∷ xs) w) same (here y xs))
      | inr rest ↦ elim (in_either x xs ys rest) [ inl q ↦ inl (there x y xs q) | inr q ↦ inr q ]
    ]

-- a list that has a number, cut there
pub cut : (x : ℕ) (xs : List ℕ) → Contains xs x → (before : List ℕ) × (after : List ℕ) × (xs ≡ before ++ x ∷ after)
cut x [] p = absurd (none_in_nil x p)
cut x (y ∷ xs) p =
    elim (contains_cases x y xs p) [
      | inl same ↦ ([], xs, ap (λ w. w ∷ xs) same)
      | inr rest ↦ let q = cut x xs rest in (y ∷ q.0, q.1, ap (λ ws. y ∷ ws) q.2)
    ]

pub last_in : (xs : List ℕ) (y z : ℕ) → last_or xs (Some y) ≡ Some z → Contains (y ∷ xs) z
last_in [] y z e = (0, omega arith, cc)
last_in (x ∷ xs) y z e = there z y (x ∷ xs) (last_in xs x z e)

pub last_in_list : (xs : List ℕ) (z : ℕ) → last_or xs None ≡ Some z → Contains xs z
last_in_list [] z e = absurd (cc)
last_in_list (x ∷ xs) z e = last_in xs x z e

pub first_in_list : (xs : List ℕ) (z : ℕ) → first_or xs None ≡ Some z → Contains xs z
first_in_list [] z e = absurd (cc)
first_in_list (x ∷ xs) z e = (0, omega arith, cc)

pub first-append : (xs ys : List ℕ) (n : Option ℕ) → first_or (xs ++ ys) n ≡ first_or xs (first_or ys n)
first-append [] ys n = refl
first-append (x ∷ xs) ys n = refl

pub last-append : (xs ys : List ℕ) (p : Option ℕ) → last_or (xs ++ ys) p ≡ last_or ys (last_or xs p)
last-append [] ys p = refl
last-append (x ∷ xs) ys p = last-append xs ys (Some x)

-- what stands before a number, or after it, in a list without repeats isn't that number
pub apart_before : (xs ys : List ℕ) (x : ℕ) → IsApart (xs ++ x ∷ ys) → Contains xs x → ⊥
apart_before [] ys x h p = none_in_nil x p
apart_before (y ∷ xs) ys x h p =
    elim (contains_cases x y xs p) [
      | inl same ↦ h.0 (subst (λ (w : ℕ). Contains (xs ++ x ∷ ys) w) (sym same) (in_middle x xs ys))
      | inr rest ↦ apart_before xs ys x h.1 rest
    ]

pub apart_right : (xs ys : List ℕ) → IsApart (xs ++ ys) → IsApart ys
apart_right [] ys h = h
apart_right (x ∷ xs) ys h = apart_right xs ys h.1

pub apart_left : (xs ys : List ℕ) → IsApart (xs ++ ys) → IsApart xs
apart_left [] ys h = tt
apart_left (x ∷ xs) ys h = (λ p. h.0 (in_left x xs ys p), apart_left xs ys h.1)

pub apart_across : (xs ys : List ℕ) (x : ℕ) → IsApart (xs ++ ys) → Contains xs x → Contains ys x → ⊥
apart_across [] ys x h p q = none_in_nil x p
apart_across (y ∷ xs) ys x h p q =
    elim (contains_cases x y xs p) [
      | inl same ↦ h.0 (subst (λ (w : ℕ). Contains (xs ++ ys) w) (sym same) (in_right x xs ys q))
      | inr rest ↦ apart_across xs ys x h.1 rest q
    ]

pub apart_join : (xs ys : List ℕ) → IsApart xs → IsApart ys → ((x : ℕ) → Contains xs x → Contains ys x → ⊥) → IsApart (xs ++ ys)
apart_join [] ys h k d = k
apart_join (x ∷ xs) ys h k d =
    (λ p. elim (in_either x xs ys p) [ inl q ↦ h.0 q | inr q ↦ d x (here x xs) q ], apart_join xs ys h.1 k (λ z p. d z (there z x xs p)))

pub without-absent : (x : ℕ) (xs : List ℕ) → (Contains xs x → ⊥) → without x xs ≡ xs
without-absent x [] h = refl
without-absent x (y ∷ xs) h =
    let rest : without x xs ≡ xs = without-absent x xs (λ p. h (there x y xs p)) in
    let differs : y ≢ x = λ e. h (subst (λ (w : ℕ). Contains (y ∷ xs) w) e (here y xs)) in
    kept (eqb y x) refl differs rest
  where
    kept : (b : Bool) → eqb y x ≡ b → y ≢ x → without x xs ≡ xs → cond (not b) (y ∷ without x xs) (without x xs) ≡ y ∷ xs
    kept true e d r = absurd (d (eqb-true y x e))
    kept false e d r = ap (λ ws. y ∷ ws) r

-- a list without repeats, cut at a number and without it
pub without-cut : (x : ℕ) (xs ys : List ℕ) → IsApart (xs ++ x ∷ ys) → without x (xs ++ x ∷ ys) ≡ xs ++ ys
without-cut x xs ys h =
    filter-append (λ y. not (eqb y x)) xs (x ∷ ys) ∙ ap (λ ws. ws ++ without x (x ∷ ys)) (without-absent x xs (apart_before xs ys x h)) ∙ ap (λ ws. xs ++ ws) (dropped (eqb x x) (eq-eqb x x refl) ∙ without-absent x ys (apart_right xs (x ∷ ys) h).0)
  where
    dropped : (b : Bool) → b ≡ true → cond (not b) (x ∷ without x ys) (without x ys) ≡ without x ys
    dropped true e = refl
    dropped false e = absurd (cc)

pub without-contains : (x y : ℕ) (xs : List ℕ) → y ≢ x → Contains xs y → Contains (without x xs) y
without-contains x y [] differs p = p
without-contains x y (z ∷ xs) differs p =
    at (eqb z x) refl (elim (contains_cases y z xs p) [ inl same ↦ inl same | inr rest ↦ inr (without-contains x y xs differs rest) ])
  where
    at : (b : Bool) → eqb z x ≡ b → (z ≡ y) ⊎ Contains (without x xs) y → Contains (cond (not b) (z ∷ without x xs) (without x xs)) y
    at true e (inl same) = absurd (differs (sym same ∙ eqb-true z x e))
    at true e (inr rest) = rest
    at false e (inl same) = subst (λ (w : ℕ). Contains (z ∷ without x xs) w) same (here z (without x xs))
    at false e (inr rest) = there y z (without x xs) rest

pub without-itself : (x : ℕ) (xs : List ℕ) → Contains (without x xs) x → ⊥
without-itself x [] p = none_in_nil x p
without-itself x (z ∷ xs) p = at (without-itself x xs) (eqb z x) refl p
  where
    at : (Contains (without x xs) x → ⊥) → (b : Bool) → eqb z x ≡ b → Contains (cond (not b) (z ∷ without x xs) (without x xs)) x → ⊥
    at none true e q = none q
    at none false e q =
        elim (contains_cases x z (without x xs) q) [ inl same ↦ false≢true (sym e ∙ eq-eqb z x same) | inr rest ↦ none rest ]

distinct : (xs : List ℕ) → IsApart xs → IsDistinct eqb xs
distinct [] h = search (rules, IsDistinct-from_apart)
distinct (x ∷ xs) h = IsDistinct-cons eqb x xs (differ xs h.0) (distinct xs h.1)
  where
    differ : (ys : List ℕ) → (Contains ys x → ⊥) → AllByRecursion (λ y. eqb x y ≡ false) ys
    differ [] q = tt
    differ (y ∷ ys) q =
        (ne_eqb x y (λ e. q (subst (λ (w : ℕ). Contains (y ∷ ys) w) (sym e) (here y ys))), differ ys (λ w. q (there x y ys w)))

-- a list without repeats whose numbers are below a bound has at most so many
pub short : (n : ℕ) (xs : List ℕ) → IsApart xs → ((x : ℕ) → Contains xs x → x < n) → length xs ≤ n
short n xs h below =
    length-le_from_distinct_below xs n (distinct xs h) (λ q e. below q (Contains-from_any (λ a b. eqb-true a b) q xs e))

-- a list that has a node is one of the lists
pub numbered : (lists : List (List ℕ)) (l x : ℕ) → Contains (list_at lists l) x → l < length lists
numbered lists l x q =
    elim (cases_lt l (length lists)) [
      | inl below ↦ below
      | inr above ↦ absurd (none_in_nil x (subst (λ (ws : List ℕ). Contains ws x) (get_or_past lists l [] above) q))
    ]

-- a node is in no list of those without it
pub without_all : (lists : List (List ℕ)) (x : ℕ) → IsLinked (map (without x) lists) x → ⊥
without_all lists x q =
    let low : q.0 < length lists = omega (arith, numbered (map (without x) lists) q.0 x q.1, length-map lists (without x)) in
    without-itself x (list_at lists q.0) (subst (λ (ws : List ℕ). Contains ws x) (get_or-map (without x) lists q.0 [] [] low) q.1)
