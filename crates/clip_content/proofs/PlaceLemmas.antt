-- New ids stand in the order of the ids that they are for.
use Rattle.std.proofs.Common.{◌≡◌, ℕ, zero, suc, ◌+◌, ◌/◌, ◌<◌, ◌≤◌, true, false, cond, List, [], ◌∷◌, ◌++◌, length, get_or, Some, Ordering, Less, Equal, Greater, ◌⊎◌, inl, inr, refl, sym, ap, subst, ◌∙◌, arith}
use Rattle.std.specs.Prelude.{filter, is_some}
use Rattle.std.specs.Cmp.{nat_cmp_is}
use Rattle.std.specs.Ordering.{is_lt, ordering_then, ordering_reverse}
use Rattle.std.proofs.lemmas.Bool.{cases_lt}
use Rattle.std.proofs.lemmas.Cmp.{nat_list_cmp_total}
use Rattle.rooms_val.proofs.Truths.{is_Less}
use Rattle.rooms_val.specs.Data.{Pairs}
use Rattle.rooms_val.specs.Maps.{order, value_at}
use Rattle.rooms_val.specs.Places.{IsPlace, IsGap}
use Rattle.rooms_val.specs.View.{data_of, pairs_view}
use Rattle.rooms_val.specs.declared.val.Val.{Val}
use Rattle.rooms_val.proofs.MapsLemmas.{same_key, order_itself, flipped, by_tie}
use Rattle.clip_content.specs.Pasted.{place_in, last_digit, four_digits, new_id}

-- the lists begin with a lesser and a greater number, or with one number before lists in order
less_first : (a b : ℕ) (xs ys : List ℕ) → a < b → order (a ∷ xs) (b ∷ ys) ≡ Less
less_first a b xs ys below = ap (λ o. ordering_then o (order xs ys)) (sym (nat_cmp_is a b Less below))

same_first : (a b : ℕ) (xs ys : List ℕ) → a ≡ b → order (a ∷ xs) (b ∷ ys) ≡ order xs ys
same_first a b xs ys same = ap (λ o. ordering_then o (order xs ys)) (sym (nat_cmp_is a b Equal same))

after_front : (front xs ys : List ℕ) → order (front ++ xs) (front ++ ys) ≡ order xs ys
after_front [] xs ys = refl
after_front (a ∷ front) xs ys = same_first a a (front ++ xs) (front ++ ys) refl ∙ after_front front xs ys

-- the next digit of two numbers whose digits before agree
next_digit : (x y : ℕ) → x / 10 ≡ y / 10 → x ≤ y → (last_digit x < last_digit y) ⊎ (x ≡ y)
next_digit x y same upto = elim (cases_lt x y) [
  | inl below ↦ inl (omega arith)
  | inr above ↦ inr (omega arith)
]

digits_by : (a b c d e f g h : ℕ) → d < h → d / 10 ≡ c → h / 10 ≡ g → c / 10 ≡ b → g / 10 ≡ f → b / 10 ≡ a → f / 10 ≡ e → a / 10 ≡ e / 10
    → order (last_digit a ∷ last_digit b ∷ last_digit c ∷ last_digit d ∷ []) (last_digit e ∷ last_digit f ∷ last_digit g ∷ last_digit h ∷ []) ≡ Less
digits_by a b c d e f g h below dc hg cb gf ba fe ae =
    let one = λ (x : ℕ). last_digit x ∷ [] in
    let two = λ (x y : ℕ). last_digit x ∷ last_digit y ∷ [] in
    let three = λ (x y z : ℕ). last_digit x ∷ last_digit y ∷ last_digit z ∷ [] in
    elim (next_digit a e ae (omega arith)) [
      | inl first ↦ less_first (last_digit a) (last_digit e) (three b c d) (three f g h) first
      | inr same ↦ same_first (last_digit a) (last_digit e) (three b c d) (three f g h) (ap last_digit same) ∙ elim (next_digit b f (ba ∙ same ∙ sym fe) (omega arith)) [
        | inl second ↦ less_first (last_digit b) (last_digit f) (two c d) (two g h) second
        | inr both ↦ same_first (last_digit b) (last_digit f) (two c d) (two g h) (ap last_digit both) ∙ elim (next_digit c g (cb ∙ both ∙ sym gf) (omega arith)) [
          | inl third ↦ less_first (last_digit c) (last_digit g) (one d) (one h) third
          | inr all ↦ same_first (last_digit c) (last_digit g) (one d) (one h) (ap last_digit all) ∙ elim (next_digit d h (dc ∙ all ∙ sym hg) (omega arith)) [
            | inl last ↦ less_first (last_digit d) (last_digit h) [] [] last
            | inr same_last ↦ let never : ⊥ = omega arith in absurd never
          ]
        ]
      ]
    ]

pub digits_rise : (n m : ℕ) → n < m → m < 10000 → order (four_digits n) (four_digits m) ≡ Less
digits_rise n m below few = digits_by (n / 1000) (n / 100) (n / 10) n (m / 1000) (m / 100) (m / 10) m below refl refl (omega arith) (omega arith) (omega arith) (omega arith) (omega arith)

-- one entry more
place_step : (e : List ℕ × _) (es : Pairs) (id : List ℕ) → place_in (e ∷ es) id ≡ cond (is_lt (order e.0 id)) 1 0 + place_in es id
place_step e es id = elim (is_lt (order e.0 id)) as (λ b. length (cond b (e ∷ filter (λ e. is_lt (order e.0 id)) es) (filter (λ e. is_lt (order e.0 id)) es)) ≡ cond b 1 0 + place_in es id) [
  | true ↦ omega arith
  | false ↦ omega arith
]

pub place_within : (es : Pairs) (id : List ℕ) → place_in es id ≤ length es
place_within [] id = omega arith
place_within (e ∷ es) id = let rest = place_within es id in let step = place_step e es id in elim (is_lt (order e.0 id)) as (λ b. place_in (e ∷ es) id ≡ cond b 1 0 + place_in es id → place_in (e ∷ es) id ≤ suc (length es)) [
  | true ↦ λ is. omega arith
  | false ↦ λ is. omega arith
] step

below_too : (k a b : List ℕ) → order a b ≡ Less → is_lt (order k a) ≡ true → is_lt (order k b) ≡ true
below_too k a b low is = ap is_lt (nat_list_cmp_total.trans k a b (is_Less (order k a) is) low)

module _ (a b : List ℕ) (low : order a b ≡ Less) where
  place_upto : (es : Pairs) → place_in es a ≤ place_in es b
  place_upto [] = omega arith
  place_upto (e ∷ es) =
      let rest = place_upto es in let left = place_step e es a in let right = place_step e es b in
      elim (is_lt (order e.0 a)) as (λ x. is_lt (order e.0 a) ≡ x → place_in (e ∷ es) a ≡ cond x 1 0 + place_in es a → place_in (e ∷ es) a ≤ place_in (e ∷ es) b) [
        | true ↦ λ is at. let more : place_in (e ∷ es) b ≡ 1 + place_in es b = right ∙ ap (λ x. cond x 1 0 + place_in es b) (below_too e.0 a b low is) in omega arith
        | false ↦ λ is at. elim (is_lt (order e.0 b)) as (λ y. place_in (e ∷ es) b ≡ cond y 1 0 + place_in es b → place_in (e ∷ es) a ≤ place_in (e ∷ es) b) [ true ↦ λ more. omega arith | false ↦ λ more. omega arith ] right
      ] refl left

  -- an id of the map comes before what is above it
  pub place_below : (es : Pairs) → is_some (value_at es a) ≡ true → place_in es a < place_in es b
  place_below [] is = absurd (let no : false ≡ true = is in (cc))
  place_below (e ∷ es) is =
      let left = place_step e es a in let right = place_step e es b in
      by_tie (λ t. is_some (cond t (Some e.1) (value_at es a)) ≡ true → place_in (e ∷ es) a < place_in (e ∷ es) b) a e.0
      (λ same _.
      let none : is_lt (order e.0 a) ≡ false = ap (λ k. is_lt (order k a)) (sym same) ∙ ap is_lt (order_itself a) in
      let one : is_lt (order e.0 b) ≡ true = ap (λ k. is_lt (order k b)) (sym same) ∙ ap is_lt low in
      let at : place_in (e ∷ es) a ≡ 0 + place_in es a = left ∙ ap (λ x. cond x 1 0 + place_in es a) none in
      let more : place_in (e ∷ es) b ≡ 1 + place_in es b = right ∙ ap (λ x. cond x 1 0 + place_in es b) one in
      let rest = place_upto es in omega arith)
      (λ later.
      let rest = place_below es later in
      elim (is_lt (order e.0 a)) as (λ x. is_lt (order e.0 a) ≡ x → place_in (e ∷ es) a ≡ cond x 1 0 + place_in es a → place_in (e ∷ es) a < place_in (e ∷ es) b) [
        | true ↦ λ is at. let more : place_in (e ∷ es) b ≡ 1 + place_in es b = right ∙ ap (λ x. cond x 1 0 + place_in es b) (below_too e.0 a b low is) in omega arith
        | false ↦ λ is at. elim (is_lt (order e.0 b)) as (λ y. place_in (e ∷ es) b ≡ cond y 1 0 + place_in es b → place_in (e ∷ es) a < place_in (e ∷ es) b) [ true ↦ λ more. omega arith | false ↦ λ more. omega arith ] right
      ] refl left)
      is

module _ (type prefix : List ℕ) (m : Pairs) (few : length m < 10000) where
  -- the new id of an id of the map is below the one of what is above it
  pub new_below : (a b : List ℕ) → is_some (value_at m a) ≡ true → order a b ≡ Less → order (new_id type prefix m a) (new_id type prefix m b) ≡ Less
  new_below a b there low =
      after_front (type ++ prefix) (four_digits (place_in m a)) (four_digits (place_in m b))
      ∙ digits_rise (place_in m a) (place_in m b) (place_below a b low m there) (let most = place_within m b in omega arith)

  new_order_by : (a b : List ℕ) → is_some (value_at m a) ≡ true → is_some (value_at m b) ≡ true → (o : Ordering) → order a b ≡ o → order (new_id type prefix m a) (new_id type prefix m b) ≡ o
  new_order_by a b there here Less is = new_below a b there is
  new_order_by a b there here Equal is = ap (λ k. order (new_id type prefix m a) (new_id type prefix m k)) (sym (same_key a b is)) ∙ order_itself (new_id type prefix m a)
  new_order_by a b there here Greater is = flipped (new_id type prefix m b) (new_id type prefix m a) Less (new_below b a here (flipped a b Greater is))

  -- new ids stand in the order of the ids that they are for
  pub new_order : (a b : List ℕ) → is_some (value_at m a) ≡ true → is_some (value_at m b) ≡ true → order (new_id type prefix m a) (new_id type prefix m b) ≡ order a b
  new_order a b there here = new_order_by a b there here (order a b) refl

-- a place that parts the keys below an id from the others is the number of those
counted : (es : List (List ℕ × Val)) (id : List ℕ) (p : ℕ) → p ≤ length es
    → ((i : ℕ) (d : List ℕ × Val) → i < p → order id (get_or es i d).0 ≡ Greater)
    → ((i : ℕ) (d : List ℕ × Val) → p ≤ i → i < length es → is_lt (order (get_or es i d).0 id) ≡ false)
    → place_in (pairs_view es) id ≡ p
counted [] id p within before after = omega arith
counted (e ∷ es) id zero within before after =
    let step = place_step (e.0, data_of e.1) (pairs_view es) id ∙ ap (λ b. cond b 1 0 + place_in (pairs_view es) id) (after 0 e (omega arith) (omega arith)) in
    let rest = counted es id zero (omega arith) (λ i d below. absurd (let never : ⊥ = omega arith in never)) (λ i d above here. after (suc i) d (omega arith) (omega arith)) in
    omega arith
counted (e ∷ es) id (suc p) within before after =
    let step = place_step (e.0, data_of e.1) (pairs_view es) id ∙ ap (λ o. cond (is_lt o) 1 0 + place_in (pairs_view es) id) (flipped id e.0 Greater (before 0 e (omega arith))) in
    let rest = counted es id p (omega arith) (λ i d below. before (suc i) d (omega arith)) (λ i d above here. after (suc i) d (omega arith) (omega arith)) in
    omega arith

not_below : (k id : List ℕ) (o : Ordering) → order id k ≡ o → is_lt (ordering_reverse o) ≡ false → is_lt (order k id) ≡ false
not_below k id o is isnt = ap is_lt (flipped id k o is) ∙ isnt

-- what a search finds
pub place_found : (es : List (List ℕ × Val)) (id : List ℕ) (p : ℕ) → IsPlace es id p → place_in (pairs_view es) id ≡ p
place_found es id p at = counted es id p (omega (arith, at.within)) at.before (λ i d from here. elim (cases_lt p i) [
  | inl above ↦ not_below (get_or es i d).0 id Less (at.after i d above here) refl
  | inr upto ↦ not_below (get_or es i d).0 id Equal (let same : p ≡ i = omega arith in subst (λ j. order id (get_or es j d).0 ≡ Equal) same (at.here d)) refl
])

pub place_missed : (es : List (List ℕ × Val)) (id : List ℕ) (p : ℕ) → IsGap es id p → place_in (pairs_view es) id ≡ p
place_missed es id p at = counted es id p at.within at.before (λ i d from here. not_below (get_or es i d).0 id Less (at.after i d from here) refl)
