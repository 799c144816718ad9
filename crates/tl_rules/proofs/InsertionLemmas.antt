-- A list in order by insertion, with an item more or less at one place.
use Rattle.std.proofs.Common.{◌≡◌, ℕ, zero, suc, ◌<◌, List, [], ◌∷◌, map, Bool, true, false, cond, not, if◌then◌else◌, length, get_or, insert, refl, sym, ap, ◌∙◌, arith, true≢false, Ordering, Less, Equal, Greater, inl, inr, filter}
use Rattle.std.specs.List.{AllByRecursion}
use Rattle.std.specs.List.Sorted.{IsPartitionedBy, IsPartitionPoint}
use Rattle.std.specs.Cmp.{IsTotalOrder, alike_right, tied_itself}
use Rattle.std.specs.Ordering.{is_lt, is_eq, ordering_reverse}
use Rattle.std.specs.FinMap.Entries.{by_order}
use Rattle.std.proofs.lemmas.Bool.{cases_Bool}
use Rattle.rooms_val.proofs.Truths.{is_Less}
use Rattle.rooms_val.specs.Maps.{order, AreRising, with_key, without_key}
use Rattle.rooms_val.proofs.MapsLemmas.{same_key, rising_rest, taken_lower, taken_first_at}
use Rattle.shape_tree.specs.Sorting.{inserted, in_order}
use Rattle.shape_tree.specs.Index.{AreNotLess, Rises}
use Rattle.tl_rules.specs.ListLaws.{IsTakenOut}

pub each_map : {X : Type 0} {P Q : X → Type 0} → ((x : X) → P x → Q x) → (xs : List X) → AllByRecursion P xs → AllByRecursion Q xs
each_map f [] each = tt
each_map f (x ∷ xs) each = (f x each.0, each_map f xs each.1)

module _ {X : Type 0} {R : X → X → Ordering} (o : IsTotalOrder R) (same : (x y : X) → R x y ≡ Equal → x ≡ y) where
  back : (x y : X) (w : Ordering) → R x y ≡ w → R y x ≡ ordering_reverse w
  back x y w e = o.antisymm y x ∙ ap ordering_reverse e

  not_above : (x y : X) → is_lt (R x y) ≡ true → is_lt (R y x) ≡ false
  not_above x y below = ap is_lt (back x y Less (is_Less (R x y) below))

  -- what is below y is below what isn't below y
  lower : (x y z : X) → is_lt (R x y) ≡ true → is_lt (R z y) ≡ false → is_lt (R x z) ≡ true
  lower x y z below above =
      (elim (R z y) as (λ w. R z y ≡ w → is_lt w ≡ false → is_lt (R x z) ≡ true) [
        | Less ↦ λ e high. absurd (true≢false high)
        | Equal ↦ λ e high. ap is_lt (alike_right o z y x e ∙ is_Less (R x y) below)
        | Greater ↦ λ e high. ap is_lt (o.trans x y z (is_Less (R x y) below) (back z y Greater e))
      ]) refl above

  -- what isn't below x isn't below what x isn't below
  higher : (t x s : X) → is_lt (R t x) ≡ false → is_lt (R x s) ≡ false → is_lt (R t s) ≡ false
  higher t x s left right = elim (cases_Bool (is_lt (R t s))) [
    | inl below ↦ absurd (true≢false (sym (lower t s x below right) ∙ left))
    | inr high ↦ high
  ]

  level : (x y : X) → is_lt (R x y) ≡ false → is_lt (R y x) ≡ false → x ≡ y
  level x y left right =
      (elim (R x y) as (λ w. R x y ≡ w → is_lt w ≡ false → x ≡ y) [
        | Less ↦ λ e high. absurd (true≢false high)
        | Equal ↦ λ e high. same x y e
        | Greater ↦ λ e high. absurd (true≢false (sym (ap is_lt (back x y Greater e)) ∙ right))
      ]) refl left

  before : (x y : X) (ys : List X) → is_lt (R x y) ≡ true → inserted R x (y ∷ ys) ≡ x ∷ y ∷ ys
  before x y ys e = ap (λ b. if b then x ∷ y ∷ ys else y ∷ inserted R x ys) e

  after : (x y : X) (ys : List X) → is_lt (R x y) ≡ false → inserted R x (y ∷ ys) ≡ y ∷ inserted R x ys
  after x y ys e = ap (λ b. if b then x ∷ y ∷ ys else y ∷ inserted R x ys) e

  -- two items at the front, each before the first of the rest
  two_first : (x y : X) (zs : List X) → inserted R x zs ≡ x ∷ zs → inserted R y zs ≡ y ∷ zs → inserted R x (y ∷ zs) ≡ inserted R y (x ∷ zs)
  two_first x y zs left right = elim (cases_Bool (is_lt (R x y))) [
    | inl below ↦ before x y zs below ∙ ap (λ l. x ∷ l) (sym right) ∙ sym (after y x zs (not_above x y below))
    | inr high ↦ after x y zs high ∙ ap (λ l. y ∷ l) left ∙ elim (cases_Bool (is_lt (R y x))) [
      | inl below ↦ sym (before y x zs below)
      | inr back_high ↦ let e = level x y high back_high in (λ i. sym e i ∷ e i ∷ zs) ∙ ap (λ l. x ∷ l) (sym right) ∙ sym (after y x zs back_high)
    ]
  ]

  one_first : (x y z : X) (zs : List X) → is_lt (R x z) ≡ true → is_lt (R y z) ≡ false → inserted R x (inserted R y (z ∷ zs)) ≡ inserted R y (inserted R x (z ∷ zs))
  one_first x y z zs below above =
      ap (inserted R x) (after y z zs above) ∙ before x z (inserted R y zs) below ∙ ap (λ l. x ∷ l) (sym (after y z zs above))
      ∙ sym (after y x (z ∷ zs) (not_above x y (lower x z y below above))) ∙ ap (inserted R y) (sym (before x z zs below))

  -- of two items either is put in first
  inserted_twice : (x y : X) (zs : List X) → inserted R x (inserted R y zs) ≡ inserted R y (inserted R x zs)
  inserted_twice x y [] = two_first x y [] refl refl
  inserted_twice x y (z ∷ zs) = elim (cases_Bool (is_lt (R x z))) [
    | inl left ↦ elim (cases_Bool (is_lt (R y z))) [
      | inl right ↦ ap (inserted R x) (before y z zs right) ∙ two_first x y (z ∷ zs) (before x z zs left) (before y z zs right) ∙ ap (inserted R y) (sym (before x z zs left))
      | inr above ↦ one_first x y z zs left above
    ]
    | inr above ↦ elim (cases_Bool (is_lt (R y z))) [
      | inl right ↦ sym (one_first y x z zs right above)
      | inr high ↦
          ap (inserted R x) (after y z zs high) ∙ after x z (inserted R y zs) above ∙ ap (λ l. z ∷ l) (inserted_twice x y zs)
          ∙ sym (after y z (inserted R x zs) high) ∙ ap (inserted R y) (sym (after x z zs above))
    ]
  ]

  -- so many items are below s, and those after them aren't
  abbrev pub Cuts : X → List X → ℕ → Type 0
  Cuts s xs zero = AreNotLess R s xs
  Cuts s [] (suc n) = Unit {0}
  Cuts s (x ∷ xs) (suc n) = (is_lt (R x s) ≡ true) × Cuts s xs n

  pub inserted_first : (s : X) (xs : List X) → AreNotLess R s xs → inserted R s xs ≡ s ∷ xs
  inserted_first s [] above = refl
  inserted_first s (x ∷ xs) above = elim (cases_Bool (is_lt (R s x))) [
    | inl below ↦ before s x xs below
    | inr high ↦ let e = level x s above.0 high in after s x xs high ∙ ap (λ l. x ∷ l) (inserted_first s xs above.1) ∙ λ i. e i ∷ sym e i ∷ xs
  ]

  -- a list that rises is in order
  pub in_order_same : (xs : List X) → Rises R xs → in_order R xs ≡ xs
  in_order_same [] rising = refl
  in_order_same (x ∷ xs) rising = ap (inserted R x) (in_order_same xs rising.1) ∙ inserted_first x xs rising.0

  above_inserted : (s t : X) (xs : List X) → is_lt (R t s) ≡ false → AreNotLess R s xs → AreNotLess R s (inserted R t xs)
  above_inserted s t [] one above = (one, tt)
  above_inserted s t (x ∷ xs) one above =
      elim (is_lt (R t x)) as (λ b. AreNotLess R s (if b then t ∷ x ∷ xs else x ∷ inserted R t xs)) [
        | true ↦ (one, above)
        | false ↦ (above.0, above_inserted s t xs one above.1)
      ]

  above_rest : (s t : X) (xs : List X) → AreNotLess R s (inserted R t xs) → AreNotLess R s xs
  above_rest s t [] above = tt
  above_rest s t (x ∷ xs) above =
      (elim (is_lt (R t x)) as (λ b. AreNotLess R s (if b then t ∷ x ∷ xs else x ∷ inserted R t xs) → AreNotLess R s (x ∷ xs)) [
        | true ↦ λ all. all.1
        | false ↦ λ all. (all.0, above_rest s t xs all.1)
      ]) above

  -- after an item that isn't below s none is
  abbrev Parts : X → List X → Type 0
  Parts s [] = Unit {0}
  Parts s (x ∷ xs) = (is_lt (R x s) ≡ false → AreNotLess R s xs) × Parts s xs

  parts_inserted : (s t : X) (xs : List X) → Parts s xs → Parts s (inserted R t xs)
  parts_inserted s t [] parts = ((λ e. tt), tt)
  parts_inserted s t (x ∷ xs) parts =
      (elim (is_lt (R t x)) as (λ b. is_lt (R t x) ≡ b → Parts s (if b then t ∷ x ∷ xs else x ∷ inserted R t xs)) [
        | true ↦ λ e. ((λ above. let high = higher x t s (not_above t x e) above in (high, parts.0 high)), parts)
        | false ↦ λ e. ((λ above. above_inserted s t xs (higher t x s e above) (parts.0 above)), parts_inserted s t xs parts.1)
      ]) refl

  parts_in_order : (s : X) (xs : List X) → Parts s (in_order R xs)
  parts_in_order s [] = tt
  parts_in_order s (x ∷ xs) = parts_inserted s x (in_order R xs) (parts_in_order s xs)

  module _ (name : X → List ℕ) where
    -- an item that is put in stands where the list was cut
    pub inserted_at : (s : X) (xs : List X) (n : ℕ) → Cuts s xs n → map name (inserted R s xs) ≡ insert (map name xs) n (name s)
    inserted_at s xs zero cuts = ap (map name) (inserted_first s xs cuts)
    inserted_at s [] (suc n) cuts = refl
    inserted_at s (x ∷ xs) (suc n) cuts = ap (map name) (after s x xs (not_above x s cuts.0)) ∙ ap (λ l. name x ∷ l) (inserted_at s xs n cuts.1)

    taken_first : (s : X) (xs : List X) (n : ℕ) → Cuts s (s ∷ xs) n → IsTakenOut (name s) n (name s ∷ map name xs) (map name xs)
    taken_first s xs zero cuts = record { within = omega arith; item = λ d. refl; rest_is = refl }
    taken_first s xs (suc n) cuts = absurd (true≢false (sym cuts.0 ∙ ap is_lt (tied_itself o s)))

    taken_later : (s x : X) (xs : List X) → is_lt (R s x) ≡ false
        → ((n : ℕ) → Cuts s (inserted R s xs) n → IsTakenOut (name s) n (map name (inserted R s xs)) (map name xs))
        → (n : ℕ) → Cuts s (x ∷ inserted R s xs) n → IsTakenOut (name s) n (name x ∷ map name (inserted R s xs)) (name x ∷ map name xs)
    taken_later s x xs high later zero cuts =
        let e = level x s cuts.0 high in
        record {
          within = omega arith;
          item = λ d. ap name e;
          rest_is = sym (ap (map name) (inserted_first s xs (above_rest s s xs cuts.1)) ∙ ap (λ y. name y ∷ map name xs) (sym e));
        }
    taken_later s x xs high later (suc n) cuts =
        let rest = later n cuts.1 in
        let within = rest.within in
        record { within = omega arith; item = rest.item; rest_is = ap (λ l. name x ∷ l) rest.rest_is }

    -- an item that was put in is taken out where the list is cut
    pub taken_at : (s : X) (xs : List X) (n : ℕ) → Cuts s (inserted R s xs) n → IsTakenOut (name s) n (map name (inserted R s xs)) (map name xs)
    taken_at s [] n cuts = taken_first s [] n cuts
    taken_at s (x ∷ xs) n cuts =
        (elim (is_lt (R s x)) as (λ b. is_lt (R s x) ≡ b → Cuts s (if b then s ∷ x ∷ xs else x ∷ inserted R s xs) n → IsTakenOut (name s) n (map name (if b then s ∷ x ∷ xs else x ∷ inserted R s xs)) (name x ∷ map name xs)) [
          | true ↦ λ e all. taken_first s (x ∷ xs) n all
          | false ↦ λ e all. taken_later s x xs e (taken_at s xs) n all
        ]) refl cuts

    module _ (at : List ℕ → X) where
      -- each item is found by its name
      abbrev pub AreFound : List X → Type 0
      AreFound = AllByRecursion (λ x. at (name x) ≡ x)

      found_before : (s x : X) (b : Bool) → at (name x) ≡ x → is_lt (R (at (name x)) s) ≡ b → is_lt (R x s) ≡ b
      found_before s x b found is = ap (λ y. is_lt (R y s)) (sym found) ∙ is

      not_less_at : (s : X) (xs : List X) → AreFound xs → AreNotLess R s xs → (k : ℕ) (d : List ℕ) → k < length (map name xs) → is_lt (R (at (get_or (map name xs) k d)) s) ≡ false
      not_less_at s [] found above k d low = absurd (omega (arith, low))
      not_less_at s (x ∷ xs) found above zero d low = ap (λ y. is_lt (R y s)) found.0 ∙ above.0
      not_less_at s (x ∷ xs) found above (suc k) d low = not_less_at s xs found.1 above.1 k d (omega arith)

      not_less_from : (s : X) (xs : List X) → AreFound xs → ((k : ℕ) (d : List ℕ) → k < length (map name xs) → is_lt (R (at (get_or (map name xs) k d)) s) ≡ false) → AreNotLess R s xs
      not_less_from s [] found high = tt
      not_less_from s (x ∷ xs) found high =
          (found_before s x false found.0 (high 0 [] (omega arith)), not_less_from s xs found.1 (λ k d low. high (suc k) d (omega arith)))

      -- a place at which a search may end cuts the items
      pub cuts_from : (s : X) (xs : List X) (n : ℕ) → AreFound xs → IsPartitionPoint (λ y. is_lt (R (at y) s) ≡ true) (λ y. is_lt (R (at y) s) ≡ false) (map name xs) n → Cuts s xs n
      cuts_from s xs zero found point = not_less_from s xs found (λ k d low. point.1 k d (omega arith) low)
      cuts_from s [] (suc n) found point = tt
      cuts_from s (x ∷ xs) (suc n) found point = (
        found_before s x true found.0 (point.0 0 [] (omega arith) (omega arith)),
        cuts_from s xs n found.1 ((λ k d low high. point.0 (suc k) d (omega arith) (omega arith)), λ k d low high. point.1 (suc k) d (omega arith) (omega arith)),
      )

      parted_by : (s : X) (xs : List X) → AreFound xs → Parts s xs → IsPartitionedBy (λ y. is_lt (R (at y) s)) (map name xs)
      parted_by s [] found parts i j d le low e = absurd (omega (arith, low))
      parted_by s (x ∷ xs) found parts zero zero d le low e = e
      parted_by s (x ∷ xs) found parts (suc i) zero d le low e = absurd (omega (arith, le))
      parted_by s (x ∷ xs) found parts (suc i) (suc j) d le low e = parted_by s xs found.1 parts.1 i j d (omega arith) (omega arith) e
      parted_by s (x ∷ xs) found parts zero (suc j) d le low e = elim (cases_Bool (is_lt (R (at (name x)) s))) [
        | inl is ↦ is
        | inr high ↦ absurd (true≢false (sym e ∙ not_less_at s xs found.1 (parts.0 (found_before s x false found.0 high)) j d (omega arith)))
      ]

      -- a list in order is parted by each item
      pub in_order_parted : (s : X) (xs : List X) → AreFound (in_order R xs) → IsPartitionedBy (λ y. is_lt (R (at y) s)) (map name (in_order R xs))
      in_order_parted s xs found = parted_by s (in_order R xs) found (parts_in_order s xs)

  -- the list with an item more, if it is to have it
  abbrev pub inserted_if : Bool → X → List X → List X
  inserted_if b x xs = cond b (inserted R x xs) xs

  inserted_if_twice : (b c : Bool) (x y : X) (zs : List X) → inserted_if b x (inserted_if c y zs) ≡ inserted_if c y (inserted_if b x zs)
  inserted_if_twice true true x y zs = inserted_twice x y zs
  inserted_if_twice true false x y zs = refl
  inserted_if_twice false c x y zs = refl

  module _ {V : Type 0} (p : List ℕ × V → Bool) (g : List ℕ × V → X) where
    -- the places of the entries that pass, in order
    abbrev pub chosen : List (List ℕ × V) → List X
    chosen es = in_order R (map g (filter p es))

    chosen_more : (e : List ℕ × V) (es : List (List ℕ × V)) → chosen (e ∷ es) ≡ inserted_if (p e) (g e) (chosen es)
    chosen_more e es = elim (p e) as (λ b. in_order R (map g (cond b (e ∷ filter p es) (filter p es))) ≡ inserted_if b (g e) (chosen es)) [ true ↦ refl | false ↦ refl ]

    -- an entry that is set is put into the list of the others
    pub chosen_with : (es : List (List ℕ × V)) (k : List ℕ) (v : V) → AreRising es → chosen (with_key es k v) ≡ inserted_if (p (k, v)) (g (k, v)) (chosen (without_key es k))
    chosen_with [] k v rising = chosen_more (k, v) []
    chosen_with (e ∷ es) k v rising =
        let put = λ (rest : List (List ℕ × V)). inserted_if (p (k, v)) (g (k, v)) (chosen rest) in
        (elim (order k e.0) as (λ w. order k e.0 ≡ w → chosen (by_order w ((k, v) ∷ e ∷ es) ((e.0, v) ∷ es) (e ∷ with_key es k v)) ≡ put (without_key (e ∷ es) k)) [
          | Less ↦ λ is. chosen_more (k, v) (e ∷ es) ∙ ap put (taken_lower k e es rising is).rest_is
          | Equal ↦ λ is. let there = same_key k e.0 is in
              ap (λ q. chosen ((q, v) ∷ es)) (sym there) ∙ chosen_more (k, v) es ∙ ap put (taken_first_at k e (e ∷ es) es refl rising there).rest_is
          | Greater ↦ λ is.
              chosen_more e (with_key es k v)
              ∙ ap (inserted_if (p e) (g e)) (chosen_with es k v (rising_rest e es rising))
              ∙ inserted_if_twice (p e) (p (k, v)) (g e) (g (k, v)) (chosen (without_key es k))
              ∙ ap (inserted_if (p (k, v)) (g (k, v))) (sym (chosen_more e (without_key es k)))
              ∙ ap (λ w. put (cond (not (is_eq w)) (e ∷ without_key es k) (without_key es k))) (sym is)
        ]) refl

    module _ (P : X → Type 0) where
      each_inserted : (x : X) (xs : List X) → P x → AllByRecursion P xs → AllByRecursion P (inserted R x xs)
      each_inserted x [] one each = (one, tt)
      each_inserted x (y ∷ ys) one each =
          elim (is_lt (R x y)) as (λ b. AllByRecursion P (if b then x ∷ y ∷ ys else y ∷ inserted R x ys)) [
            | true ↦ (one, each)
            | false ↦ (each.0, each_inserted x ys one each.1)
          ]

      -- what holds of the place of each entry holds of those that are chosen
      pub each_chosen : (es : List (List ℕ × V)) → AllByRecursion (λ e. P (g e)) es → AllByRecursion P (chosen es)
      each_chosen [] each = tt
      each_chosen (e ∷ es) each =
          let rest = each_chosen es each.1 in
          elim (p e) as (λ b. AllByRecursion P (in_order R (map g (cond b (e ∷ filter p es) (filter p es))))) [
            | true ↦ each_inserted (g e) (chosen es) each.0 rest
            | false ↦ rest
          ]
