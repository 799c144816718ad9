-- What reaches an end does so by as many steps as there are items with something above them.
use Rattle.std.proofs.Common.{◌≡◌, ℕ, zero, suc, ◌+◌, ◌-◌, ◌<◌, ◌≤◌, Bool, true, false, ◌||◌, cond, List, [], ◌∷◌, length, ◌⊎◌, inl, inr, refl, sym, ap, subst, ◌∙◌, arith}
use Rattle.std.specs.List.{list_any}
use Rattle.std.proofs.lemmas.Bool.{cases_lt}
use Rattle.side_effects.specs.Reaching.{reaches}
use Rattle.side_effects.specs.ReachingLaws.{IsIn, AreAll, IsClosed, AreLeast}
use Rattle.rooms_val.proofs.Truths.{or_left, or_right, iff_same}

pub or_cases : (a b : Bool) → (a || b) ≡ true → (a ≡ true) ⊎ (b ≡ true)
or_cases true b is = inl refl
or_cases false b is = inr is

module _ {X : Type 0} where
  pub any_imp : (p q : X → Bool) → ((x : X) → p x ≡ true → q x ≡ true) → (xs : List X) → list_any p xs ≡ true → list_any q xs ≡ true
  any_imp p q imp [] is = is
  any_imp p q imp (x ∷ xs) is = elim (or_cases (p x) (list_any p xs) is) [
    | inl here ↦ or_left (q x) (list_any q xs) (imp x here)
    | inr later ↦ or_right (q x) (list_any q xs) (any_imp p q imp xs later)
  ]

  pub any_in : (p : X → Bool) (x : X) (xs : List X) → IsIn x xs → p x ≡ true → list_any p xs ≡ true
  any_in p x [] is holds = absurd is
  any_in p x (y ∷ ys) is holds = elim is [
    | inl same ↦ or_left (p y) (list_any p ys) (sym (ap p same) ∙ holds)
    | inr later ↦ or_right (p y) (list_any p ys) (any_in p x ys later holds)
  ]

  pub in_any : (p : X → Bool) (xs : List X) → list_any p xs ≡ true → (x : X) × (IsIn x xs) × (p x ≡ true)
  in_any p [] is = absurd (let no : false ≡ true = is in (cc))
  in_any p (y ∷ ys) is = elim (or_cases (p y) (list_any p ys) is) [
    | inl here ↦ (y, inl refl, here)
    | inr later ↦ let found = in_any p ys later in (found.0, inr found.1, found.2)
  ]

  -- how many items pass
  abbrev count : (X → Bool) → List X → ℕ
  count p [] = 0
  count p (x ∷ xs) = cond (p x) 1 0 + count p xs

  count_by_length : (p : X → Bool) (xs : List X) → count p xs ≤ length xs
  count_by_length p [] = omega arith
  count_by_length p (x ∷ xs) = let later = count_by_length p xs in elim (p x) as (λ b. cond b 1 0 + count p xs ≤ suc (length xs)) [
    | true ↦ omega arith
    | false ↦ omega arith
  ]

  count_imp : (p q : X → Bool) → ((x : X) → p x ≡ true → q x ≡ true) → (xs : List X) → count p xs ≤ count q xs
  count_imp p q imp [] = omega arith
  count_imp p q imp (x ∷ xs) = let later = count_imp p q imp xs in elim (p x) as (λ b. p x ≡ b → cond b 1 0 + count p xs ≤ cond (q x) 1 0 + count q xs) [
    | true ↦ λ is. subst (λ b. 1 + count p xs ≤ cond b 1 0 + count q xs) (sym (imp x is)) (omega arith)
    | false ↦ λ is. omega arith
  ] refl

  -- where more pass but not so many more, the same pass
  count_same : (p q : X → Bool) → ((x : X) → p x ≡ true → q x ≡ true) → (xs : List X) → count q xs ≤ count p xs → (x : X) → IsIn x xs → q x ≡ true → p x ≡ true
  count_same p q imp [] few x is holds = absurd is
  count_same p q imp (y ∷ ys) few x is holds = elim (p y) as (λ b. p y ≡ b → cond (q y) 1 0 + count q ys ≤ cond b 1 0 + count p ys → p x ≡ true) [
    | true ↦ λ here fewer. elim is [
      | inl same ↦ ap p same ∙ here
      | inr later ↦ count_same p q imp ys (let known : cond (q y) 1 0 + count q ys ≤ 1 + count p ys = fewer in let one : 1 + count q ys ≤ 1 + count p ys = subst (λ b. cond b 1 0 + count q ys ≤ 1 + count p ys) (imp y here) known in omega arith) x later holds
    ]
    | false ↦ λ here fewer. elim (q y) as (λ b. q y ≡ b → cond b 1 0 + count q ys ≤ 0 + count p ys → p x ≡ true) [
      | true ↦ λ there never. absurd (let later = count_imp p q imp ys in omega arith)
      | false ↦ λ there fewest. elim is [
        | inl same ↦ absurd (let no : false ≡ true = sym there ∙ sym (ap q same) ∙ holds in (cc))
        | inr later ↦ count_same p q imp ys (omega arith) x later holds
      ]
    ] refl fewer
  ] refl few

pub or_false : (a : Bool) → (a || false) ≡ a
or_false true = refl
or_false false = refl

abbrev pub raised : ℕ → ℕ → ℕ
raised zero k = k
raised (suc j) k = suc (raised j k)

pub raised_is : (j k : ℕ) → raised j k ≡ j + k
raised_is zero k = omega arith
raised_is (suc j) k = let below = raised_is j k in omega arith

module _ {X : Type 0} (up : X → List X) (is_end : X → Bool) where
  abbrev more_of : (X → Bool) → X → Bool
  more_of has x = is_end x || list_any has (up x)

  pub more : (n : ℕ) (x : X) → reaches up is_end n x ≡ true → reaches up is_end (suc n) x ≡ true
  unfolding reaches
  more zero x is = or_left (is_end x) (list_any (reaches up is_end zero) (up x)) is
  more (suc n) x is = elim (or_cases (is_end x) (list_any (reaches up is_end n) (up x)) is) [
    | inl here ↦ or_left (is_end x) (list_any (reaches up is_end (suc n)) (up x)) here
    | inr later ↦ or_right (is_end x) (list_any (reaches up is_end (suc n)) (up x)) (any_imp (reaches up is_end n) (reaches up is_end (suc n)) (more n) (up x) later)
  ]

  pub climb : (j n : ℕ) (x : X) → reaches up is_end n x ≡ true → reaches up is_end (raised j n) x ≡ true
  climb zero n x is = is
  climb (suc j) n x is = more (raised j n) x (climb j n x is)

  pub alone : (x : X) → up x ≡ [] → (n : ℕ) → reaches up is_end n x ≡ is_end x
  unfolding reaches
  alone x none zero = refl
  alone x none (suc n) = ap (λ xs. is_end x || list_any (reaches up is_end n) xs) none ∙ or_false (is_end x)

  abbrev IsStable : ℕ → Type 0
  IsStable k = reaches up is_end k ≡ reaches up is_end (suc k)

  stays : (k : ℕ) → IsStable k → IsStable (suc k)
  unfolding reaches
  stays k is = ap more_of is

  stays_on : (j k : ℕ) → IsStable k → IsStable (raised j k)
  stays_on zero k is = is
  stays_on (suc j) k is = stays (raised j k) (stays_on j k is)

  same_on : (j k : ℕ) → IsStable k → reaches up is_end (raised j k) ≡ reaches up is_end k
  same_on zero k is = refl
  same_on (suc j) k is = sym (stays_on j k is) ∙ same_on j k is

  module _ (items : List X) (all : AreAll up is_end items) where
    grown : ℕ → ℕ
    grown n = count (reaches up is_end n) items

    stable : (n : ℕ) → grown (suc n) ≤ grown n → IsStable n
    unfolding grown
    stable n few = λ i x. point x i
      where
        point : (x : X) → reaches up is_end n x ≡ reaches up is_end (suc n) x
        point x = elim (all x) [
          | inl is ↦ iff_same (reaches up is_end n x) (reaches up is_end (suc n) x) (more n x) (count_same (reaches up is_end n) (reaches up is_end (suc n)) (more n) items few x is)
          | inr none ↦ alone x none n ∙ sym (alone x none (suc n))
        ]

    either : (n : ℕ) → (n ≤ grown n) ⊎ ((k : ℕ) × (k < n) × IsStable k)
    either zero = inl (omega arith)
    either (suc n) = elim (either n) [
      | inl grew ↦ elim (cases_lt (grown n) (grown (suc n))) [
        | inl again ↦ inl (omega arith)
        | inr few ↦ inr (n, omega arith, stable n few)
      ]
      | inr found ↦ inr (found.0, (let low = found.1 in omega arith), found.2)
    ]

    settled : (k : ℕ) × (k ≤ length items) × IsStable k
    unfolding grown
    settled = elim (either (suc (length items))) [
      | inl grew ↦ absurd (let most = count_by_length (reaches up is_end (suc (length items))) items in omega arith)
      | inr found ↦ (found.0, (let low = found.1 in omega arith), found.2)
    ]

    -- so many steps are enough
    pub enough : (n : ℕ) (x : X) → reaches up is_end n x ≡ true → reaches up is_end (length items) x ≡ true
    enough n x is =
        let k = settled.0 in
        let low : k ≤ length items = settled.1 in
        let at_length : reaches up is_end (length items) ≡ reaches up is_end k =
        subst (λ m. reaches up is_end m ≡ reaches up is_end k) (raised_is (length items - k) k ∙ (omega arith)) (same_on (length items - k) k settled.2) in
        elim (cases_lt k n) [
          | inl above ↦
              let at_n : reaches up is_end n ≡ reaches up is_end k = subst (λ m. reaches up is_end m ≡ reaches up is_end k) (raised_is (n - k) k ∙ (omega arith)) (same_on (n - k) k settled.2) in
              ap (λ has. has x) (at_length ∙ sym at_n) ∙ is
          | inr below ↦
              let there : reaches up is_end k x ≡ true = subst (λ m. reaches up is_end m x ≡ true) (raised_is (k - n) n ∙ (omega arith)) (climb (k - n) n x is) in
              ap (λ has. has x) at_length ∙ there
        ]

    pub closed_below : (x y : X) → IsIn y (up x) → reaches up is_end (length items) y ≡ true → reaches up is_end (length items) x ≡ true
    unfolding reaches
    closed_below x y is holds =
        enough (suc (length items)) x (or_right (is_end x) (list_any (reaches up is_end (length items)) (up x)) (any_in (reaches up is_end (length items)) y (up x) is holds))

    pub has_ends : (x : X) → is_end x ≡ true → reaches up is_end (length items) x ≡ true
    unfolding reaches
    has_ends x is = enough 0 x is

  -- whatever set is closed has what reaches an end
  pub within : (has : X → Bool) → IsClosed up is_end has → (n : ℕ) (x : X) → reaches up is_end n x ≡ true → has x ≡ true
  unfolding reaches
  within has closed zero x is = closed.ends x is
  within has closed (suc n) x is = elim (or_cases (is_end x) (list_any (reaches up is_end n) (up x)) is) [
    | inl here ↦ closed.ends x here
    | inr later ↦
        let found = in_any (reaches up is_end n) (up x) later in
        closed.below x found.0 found.1 (within has closed n found.0 found.2)
  ]

  pub least : (items : List X) → AreAll up is_end items → AreLeast up is_end items
  least items all = record {
    closed = record { ends = has_ends items all; below = closed_below items all };
    least = λ has closed x is. within has closed (length items) x is;
  }
