-- What filters keep and leave out.
use Rattle.std.proofs.Common.{◌≡◌, ℕ, Bool, true, false, ◌||◌, cond, not, List, [], ◌∷◌, ◌++◌, map, filter, Some, None, is_some, refl, sym, ap, ◌∙◌}
use Rattle.rooms_val.specs.Maps.{value_at, ties, AreRising}
use Rattle.rooms_val.proofs.MapsLemmas.{ties_flip, none_later, rising_rest}

module _ {X : Type 0} where
  -- what passes neither of two tests
  pub filter_neither : (a b : X → Bool) (xs : List X) → filter (λ x. not (a x || b x)) xs ≡ filter (λ x. not (b x)) (filter (λ x. not (a x)) xs)
  filter_neither a b [] = refl
  filter_neither a b (x ∷ xs) =
      let ih = filter_neither a b xs in
      elim (a x) as (λ t. cond (not (t || b x)) (x ∷ filter (λ y. not (a y || b y)) xs) (filter (λ y. not (a y || b y)) xs) ≡ filter (λ y. not (b y)) (cond (not t) (x ∷ filter (λ y. not (a y)) xs) (filter (λ y. not (a y)) xs))) [
        | true ↦ ih
        | false ↦ ap (λ r. cond (not (b x)) (x ∷ r) r) ih
      ]

  -- two tests that agree where a third one passes
  pub filter_where : (f g t : X → Bool) → ((x : X) → t x ≡ true → f x ≡ g x) → (xs : List X) → filter f (filter t xs) ≡ filter t (filter g xs)
  filter_where f g t agree [] = refl
  filter_where f g t agree (x ∷ xs) =
      let ih = filter_where f g t agree xs in
      elim (t x) as (λ b. t x ≡ b → filter f (cond b (x ∷ filter t xs) (filter t xs)) ≡ filter t (cond (g x) (x ∷ filter g xs) (filter g xs))) [
        | true ↦ λ is. elim (g x) as (λ c. f x ≡ c → cond (f x) (x ∷ filter f (filter t xs)) (filter f (filter t xs)) ≡ filter t (cond c (x ∷ filter g xs) (filter g xs))) [
          | true ↦ λ same. ap (λ b. cond b (x ∷ filter f (filter t xs)) (filter f (filter t xs))) same ∙ ap (λ r. x ∷ r) ih ∙ sym (ap (λ b. cond b (x ∷ filter t (filter g xs)) (filter t (filter g xs))) is)
          | false ↦ λ same. ap (λ b. cond b (x ∷ filter f (filter t xs)) (filter f (filter t xs))) same ∙ ih
        ] (agree x is)
        | false ↦ λ is. ih ∙ elim (g x) as (λ c. filter t (filter g xs) ≡ filter t (cond c (x ∷ filter g xs) (filter g xs))) [
          | true ↦ sym (ap (λ b. cond b (x ∷ filter t (filter g xs)) (filter t (filter g xs))) is)
          | false ↦ refl
        ]
      ] refl

  -- what passes a test passes another one
  pub filter_passing : (f t : X → Bool) → ((x : X) → t x ≡ true → f x ≡ true) → (xs : List X) → filter f (filter t xs) ≡ filter t xs
  filter_passing f t more [] = refl
  filter_passing f t more (x ∷ xs) =
      elim (t x) as (λ b. t x ≡ b → filter f (cond b (x ∷ filter t xs) (filter t xs)) ≡ cond b (x ∷ filter t xs) (filter t xs)) [
        | true ↦ λ is. ap (λ b. cond b (x ∷ filter f (filter t xs)) (filter f (filter t xs))) (more x is) ∙ ap (λ r. x ∷ r) (filter_passing f t more xs)
        | false ↦ λ is. filter_passing f t more xs
      ] refl

pub filter-map : {X Y : Type 0} (f : Y → Bool) (g : X → Y) (xs : List X) → filter f (map g xs) ≡ map g (filter (λ x. f (g x)) xs)
filter-map f g [] = refl
filter-map f g (x ∷ xs) = elim (f (g x)) as (λ b. cond b (g x ∷ filter f (map g xs)) (filter f (map g xs)) ≡ map g (cond b (x ∷ filter (λ y. f (g y)) xs) (filter (λ y. f (g y)) xs))) [
  | true ↦ ap (λ r. g x ∷ r) (filter-map f g xs)
  | false ↦ filter-map f g xs
]

module _ {V : Type 0} where
  -- whether an id is named by one list or another
  pub named-append : (es fs : List (List ℕ × V)) (q : List ℕ) → is_some (value_at (es ++ fs) q) ≡ is_some (value_at es q) || is_some (value_at fs q)
  named-append [] fs q = refl
  named-append (e ∷ es) fs q =
      elim (ties q e.0) as (λ b. is_some (cond b (Some e.1) (value_at (es ++ fs) q)) ≡ is_some (cond b (Some e.1) (value_at es q)) || is_some (value_at fs q)) [
        | true ↦ refl
        | false ↦ named-append es fs q
      ]

  -- a key isn't among those before it
  pub none_before : (es : List (List ℕ × V)) (e : List ℕ × V) (fs : List (List ℕ × V)) → AreRising (es ++ e ∷ fs) → value_at es e.0 ≡ None
  none_before [] e fs rising = refl
  none_before (d ∷ es) e fs rising =
      let none : is_some (value_at (es ++ e ∷ fs) d.0) ≡ false = ap is_some (none_later d (es ++ e ∷ fs) rising) in
      let rest = none_before es e fs (rising_rest d (es ++ e ∷ fs) rising) in
      elim (ties e.0 d.0) as (λ b. ties e.0 d.0 ≡ b → cond b (Some d.1) (value_at es e.0) ≡ None) [
        | true ↦ λ is.
            let here : is_some (value_at (e ∷ fs) d.0) ≡ true = ap (λ b. is_some (cond b (Some e.1) (value_at fs d.0))) (ties_flip d.0 e.0 ∙ is) in
            let there : is_some (value_at (es ++ e ∷ fs) d.0) ≡ true = named-append es (e ∷ fs) d.0 ∙ ap (λ b. is_some (value_at es d.0) || b) here ∙ or_true (is_some (value_at es d.0)) in
            absurd (cc)
        | false ↦ λ is. rest
      ] refl
    where
      or_true : (b : Bool) → b || true ≡ true
      or_true true = refl
      or_true false = refl

  -- a test of other keys leaves those of a list that doesn't name the key
  pub others_stay : {W : Type 0} (g : List ℕ × V → W) (es : List (List ℕ × V)) (k : List ℕ) → value_at es k ≡ None → filter (λ (p : List ℕ × W). not (ties p.0 k)) (map (λ e. (e.0, g e)) es) ≡ map (λ e. (e.0, g e)) es
  others_stay g [] k none = refl
  others_stay {W} g (e ∷ es) k none =
      elim (ties k e.0) as (λ b. ties k e.0 ≡ b → cond b (Some e.1) (value_at es k) ≡ None → cond (not (ties e.0 k)) ((e.0, g e) ∷ filter (λ (p : List ℕ × W). not (ties p.0 k)) (map (λ e. (e.0, g e)) es)) (filter (λ (p : List ℕ × W). not (ties p.0 k)) (map (λ e. (e.0, g e)) es)) ≡ (e.0, g e) ∷ map (λ e. (e.0, g e)) es) [
        | true ↦ λ is some. absurd (cc)
        | false ↦ λ is rest. ap (λ b. cond (not b) ((e.0, g e) ∷ filter (λ (p : List ℕ × W). not (ties p.0 k)) (map (λ e. (e.0, g e)) es)) (filter (λ (p : List ℕ × W). not (ties p.0 k)) (map (λ e. (e.0, g e)) es))) (ties_flip e.0 k ∙ is) ∙ ap (λ r. (e.0, g e) ∷ r) (others_stay g es k rest)
      ] refl none
