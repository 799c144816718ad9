-- Two parts of a map, each by id, merge to the part that has both.
use Rattle.std.proofs.Common.{◌≡◌, ℕ, List, [], ◌∷◌, ◌++◌, ◌-◌, length, take, drop, arith, Bool, true, false, cond, ◌&&◌, ◌||◌, T, map, refl, sym, ◌∙◌, ap, Less}
use Rattle.std.specs.Prelude.{filter}
use Rattle.std.proofs.lemmas.List.{append-nil, take_all, length-drop}
use Rattle.std.specs.FinMap.Entries.{by_order, below_all}
use Rattle.rooms_val.specs.Data.{Data, Pairs}
use Rattle.rooms_val.specs.Maps.{order, AreRising}
use Rattle.rooms_val.proofs.MapsLemmas.{first, second, less, order_itself, flipped, rising_rest}
use Rattle.tl_rules.specs.Asking.{placed, merged}

-- an id comes before the first of others
abbrev IsFirst : List ℕ → List (List ℕ) → Type 0
IsFirst id [] = Unit {0}
IsFirst id (other ∷ others) = order id other ≡ Less

merged-nil : (ids : List (List ℕ)) → merged ids [] ≡ ids
merged-nil [] = refl
merged-nil (id ∷ ids) = refl

merged_first : (id : List ℕ) (ids others : List (List ℕ)) → IsFirst id others → merged (id ∷ ids) others ≡ id ∷ merged ids others
merged_first id ids [] first = ap (λ rest. id ∷ rest) (sym (merged-nil ids))
merged_first id ids (other ∷ others) first = ap (λ o. by_order o (id ∷ merged ids (other ∷ others)) (id ∷ merged ids others) (other ∷ placed (merged ids) id ids others)) first

merged_second : (ids : List (List ℕ)) (other : List ℕ) (others : List (List ℕ)) → IsFirst other ids → merged ids (other ∷ others) ≡ other ∷ merged ids others
merged_second [] other others first = refl
merged_second (id ∷ ids) other others first = ap (λ o. by_order o (id ∷ merged ids (other ∷ others)) (id ∷ merged ids others) (other ∷ placed (merged ids) id ids others)) (flipped other id Less first)

merged_same : (id : List ℕ) (ids others : List (List ℕ)) → merged (id ∷ ids) (id ∷ others) ≡ id ∷ merged ids others
merged_same id ids others = ap (λ o. by_order o (id ∷ merged ids (id ∷ others)) (id ∷ merged ids others) (id ∷ placed (merged ids) id ids others)) (order_itself id)

abbrev ids_of : Pairs → List (List ℕ)
ids_of m = map (λ e. e.0) m

first_of : (id : List ℕ) (p : List ℕ × Data → Bool) (m : Pairs) → T (below_all order id m) → IsFirst id (ids_of (filter p m))
first_of id p [] below = tt
first_of id p (e ∷ m) below =
    elim (p e) as (λ b. IsFirst id (ids_of (cond b (e ∷ filter p m) (filter p m)))) [
      | true ↦ less (order id e.0) (first _ _ below)
      | false ↦ first_of id p m (second _ _ below)
    ]

-- one entry more, which passes one test, both or none
one_more : (e : List ℕ × Data) (xs ys zs : Pairs) → IsFirst e.0 (ids_of xs) → IsFirst e.0 (ids_of ys) → merged (ids_of xs) (ids_of ys) ≡ ids_of zs
    → (b c : Bool) → merged (ids_of (cond b (e ∷ xs) xs)) (ids_of (cond c (e ∷ ys) ys)) ≡ ids_of (cond (b || c) (e ∷ zs) zs)
one_more e xs ys zs left right rest true true = merged_same e.0 (ids_of xs) (ids_of ys) ∙ ap (λ ids. e.0 ∷ ids) rest
one_more e xs ys zs left right rest true false = merged_first e.0 (ids_of xs) (ids_of ys) right ∙ ap (λ ids. e.0 ∷ ids) rest
one_more e xs ys zs left right rest false true = merged_second (ids_of xs) e.0 (ids_of ys) left ∙ ap (λ ids. e.0 ∷ ids) rest
one_more e xs ys zs left right rest false false = rest

pub merged_parts : (p q : List ℕ × Data → Bool) (m : Pairs) → AreRising m → merged (ids_of (filter p m)) (ids_of (filter q m)) ≡ ids_of (filter (λ e. p e || q e) m)
merged_parts p q [] rising = refl
merged_parts p q (e ∷ m) rising =
    one_more e (filter p m) (filter q m) (filter (λ e. p e || q e) m) (first_of e.0 p m (first _ _ rising)) (first_of e.0 q m (first _ _ rising)) (merged_parts p q m (rising_rest e m rising)) (p e) (q e)

either_test : (a b c : Bool) → ((a && b) || (a && c)) ≡ (a && (b || c))
either_test true b c = refl
either_test false b c = refl

filter_same : (p q : List ℕ × Data → Bool) → ((e : List ℕ × Data) → p e ≡ q e) → (m : Pairs) → filter p m ≡ filter q m
filter_same p q same [] = refl
filter_same p q same (e ∷ m) = λ i. cond (same e i) (e ∷ filter_same p q same m i) (filter_same p q same m i)

-- the same where both tests have a part in common
pub merged_common : (a p q : List ℕ × Data → Bool) (m : Pairs) → AreRising m
    → merged (ids_of (filter (λ e. a e && p e) m)) (ids_of (filter (λ e. a e && q e) m)) ≡ ids_of (filter (λ e. a e && (p e || q e)) m)
merged_common a p q m rising =
    merged_parts (λ e. a e && p e) (λ e. a e && q e) m rising ∙ ap ids_of (filter_same _ _ (λ e. either_test (a e) (p e) (q e)) m)

-- what is left from a place on
pub rest_from : (xs : List (List ℕ)) (i : ℕ) → take (length xs - i) (drop i xs) ≡ drop i xs
rest_from xs i = take_all (length xs - i) (drop i xs) (omega (arith, length-drop i xs))

-- where one list is at its end, the rest of both follows
module _ (ids xs ys one two : List (List ℕ)) (first_part : one ≡ ids ++ xs) (second_part : two ≡ one ++ ys) where
  pub left_ended : xs ≡ [] → two ≡ ids ++ merged xs ys
  left_ended none =
      second_part ∙ ap (λ l. l ++ ys) (first_part ∙ ap (λ l. ids ++ l) none ∙ append-nil ids) ∙ sym (ap (λ l. ids ++ merged l ys) none)

  pub right_ended : ys ≡ [] → two ≡ ids ++ merged xs ys
  right_ended none =
      second_part ∙ ap (λ l. l ++ ys) first_part ∙ ap (λ l. (ids ++ xs) ++ l) none ∙ append-nil (ids ++ xs)
      ∙ sym (ap (λ l. ids ++ merged xs l) none ∙ ap (λ l. ids ++ l) (merged-nil xs))
