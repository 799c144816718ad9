-- Siblings put into order one after another, from the last.
use Rattle.std.proofs.Common.{◌≡◌, ℕ, Bool, true, false, cond, T, List, [], ◌∷◌, map, Ordering, Less, Equal, Greater, refl, sym, ap, subst, ◌∙◌}
use Rattle.std.specs.Prelude.{filter}
use Rattle.std.specs.BTreeSet.{insert_key}
use Rattle.std.specs.FinMap.Entries.{below_all}
use Rattle.std.specs.Ordering.{is_lt, ordering_then, match_ordering}
use Rattle.rooms_val.specs.Data.{Data, Pairs}
use Rattle.rooms_val.specs.Maps.{order, AreRising}
use Rattle.rooms_val.proofs.MapsLemmas.{first, second, less}
use Rattle.shape_tree.specs.Sorting.{inserted, in_order}
use Rattle.shape_tree.specs.Trees.{Sibling, sibling_of, sibling_order}
use Rattle.clip_content.specs.View.{spots_view}
use Rattle.clip_content.specs.declared.tops.Spot.{Spot}

-- each item of a list has a property
abbrev pub Each : {X : Type 0} → (X → Type 0) → List X → Type 0
Each P [] = Unit {0}
Each P (x ∷ xs) = P x × Each P xs

module _ {X : Type 0} where
  pub each-weaker : (P Q : X → Type 0) → ((x : X) → P x → Q x) → (xs : List X) → Each P xs → Each Q xs
  each-weaker P Q weaker [] each = tt
  each-weaker P Q weaker (x ∷ xs) each = (weaker x each.0, each-weaker P Q weaker xs each.1)

  pub each-filter : (P : X → Type 0) (test : X → Bool) (xs : List X) → Each P xs → Each P (filter test xs)
  each-filter P test [] each = tt
  each-filter P test (x ∷ xs) each = elim (test x) as (λ b. Each P (cond b (x ∷ filter test xs) (filter test xs))) [
    | true ↦ (each.0, each-filter P test xs each.1)
    | false ↦ each-filter P test xs each.1
  ]

  pub each-inserted : (P : X → Type 0) (cmp : X → X → Ordering) (x : X) (xs : List X) → P x → Each P xs → Each P (inserted cmp x xs)
  each-inserted P cmp x [] new each = (new, tt)
  each-inserted P cmp x (y ∷ ys) new each = elim (is_lt (cmp x y)) as (λ b. Each P (cond b (x ∷ y ∷ ys) (y ∷ inserted cmp x ys))) [
    | true ↦ (new, each)
    | false ↦ (each.0, each-inserted P cmp x ys new each.1)
  ]

  pub each-in_order : (P : X → Type 0) (cmp : X → X → Ordering) (xs : List X) → Each P xs → Each P (in_order cmp xs)
  each-in_order P cmp [] each = tt
  each-in_order P cmp (x ∷ xs) each = each-inserted P cmp x (in_order cmp xs) each.0 (each-in_order P cmp xs each.1)

-- the id of a sibling is above another id
abbrev pub IsAbove : List ℕ → Sibling → Type 0
IsAbove id s = order id s.id ≡ Less

pub each_above : (id : List ℕ) (test : List ℕ × Data → Bool) (es : Pairs) → T (below_all order id es) → Each (IsAbove id) (map sibling_of (filter test es))
each_above id test [] below = tt
each_above id test (e ∷ es) below = elim (test e) as (λ b. Each (IsAbove id) (map sibling_of (cond b (e ∷ filter test es) (filter test es)))) [
  | true ↦ (less (order id e.0) (first _ _ below), each_above id test es (second _ _ below))
  | false ↦ each_above id test es (second _ _ below)
]

abbrev pub by_view : {X : Type 0} → (X → Sibling) → X → X → Ordering
by_view view a b = sibling_order (view a) (view b)

module _ {X : Type 0} (view : X → Sibling) (x : X) where
  pub insert_once : (ks : List X) → Each (IsAbove (view x).id) (map view ks) → map view (insert_key (by_view view) ks x) ≡ inserted sibling_order (view x) (map view ks)
  insert_once [] above = refl
  insert_once (k ∷ ks) above =
      let rest = insert_once ks above.1 in
      elim (order (view x).index (view k).index) as (λ o. map view (match_ordering (ordering_then o (order (view x).id (view k).id)) (x ∷ k ∷ ks) (k ∷ ks) (k ∷ insert_key (by_view view) ks x))
      ≡ cond (is_lt (ordering_then o (order (view x).id (view k).id))) (view x ∷ view k ∷ map view ks) (view k ∷ inserted sibling_order (view x) (map view ks))) [
        | Less ↦ refl
        | Equal ↦ rw above.0 refl
        | Greater ↦ ap (λ ss. view k ∷ ss) rest
      ]

-- the siblings of the entries that pass, one entry more at the front
module _ (test : List ℕ × Data → Bool) (e : List ℕ × Data) (es : Pairs) where
  pub passes_by : test e ≡ false → in_order sibling_order (map sibling_of (filter test (e ∷ es))) ≡ in_order sibling_order (map sibling_of (filter test es))
  passes_by isnt = ap (λ b. in_order sibling_order (map sibling_of (cond b (e ∷ filter test es) (filter test es)))) isnt

  pub comes_in : {X : Type 0} (view : X → Sibling) (x : X) (ks : List X) → test e ≡ true → AreRising (e ∷ es) → view x ≡ sibling_of e
      → map view ks ≡ in_order sibling_order (map sibling_of (filter test es))
      → map view (insert_key (by_view view) ks x) ≡ in_order sibling_order (map sibling_of (filter test (e ∷ es)))
  comes_in view x ks is rising same so_far =
      let above : Each (IsAbove (view x).id) (map view ks) = subst (λ (s : Sibling). Each (IsAbove s.id) (map view ks)) (sym same)
      (subst (Each (IsAbove e.0)) (sym so_far) (each-in_order (IsAbove e.0) sibling_order (map sibling_of (filter test es)) (each_above e.0 test es (first _ _ rising)))) in
      insert_once view x ks above
      ∙ (λ i. inserted sibling_order (same i) (so_far i))
      ∙ sym (ap (λ b. in_order sibling_order (map sibling_of (cond b (e ∷ filter test es) (filter test es)))) is)

pub ids_at : (ss : List Spot) → map (λ s. s.id.now) ss ≡ map (λ s. s.id) (spots_view ss)
ids_at [] = refl
ids_at (s ∷ ss) = ap (λ ids. s.id.now ∷ ids) (ids_at ss)
