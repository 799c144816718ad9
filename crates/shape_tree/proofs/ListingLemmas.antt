-- A tree that is cut off after so many shapes.
use Rattle.std.proofs.Common.{◌≡◌, ℕ, zero, suc, ◌+◌, ◌-◌, ◌<◌, ◌≤◌, List, [], ◌∷◌, ◌++◌, map, refl, sym, ap, ◌∙◌, arith, take, length, get_or, subst, append_assoc}
use Rattle.std.specs.List.{flat_map}
use Rattle.std.proofs.lemmas.List.{append-nil, take_all, take_more, map-append}
use Rattle.std.proofs.lemmas.List.Concat.{flat_map-append}
use Rattle.rooms_val.specs.Data.{Pairs}
use Rattle.shape_tree.specs.declared.place.Place as borrowed
use Rattle.shape_tree.specs.Trees.{children, descendants}

module _ {X : Type 0} where
  take_take : (n : ℕ) (xs ys : List X) → take n (take n xs ++ ys) ≡ take n (xs ++ ys)
  take_take zero xs ys = refl
  take_take (suc n) [] ys = refl
  take_take (suc n) (x ∷ xs) ys = ap (λ rest. x ∷ rest) (take_take n xs ys)

  -- nothing is added to what is full
  take_full : (n : ℕ) (xs ys : List X) → n ≤ length (take n xs) → take n (xs ++ ys) ≡ take n xs
  take_full zero xs ys full = refl
  take_full (suc n) [] ys full = absurd (omega arith)
  take_full (suc n) (x ∷ xs) ys full = ap (λ rest. x ∷ rest) (take_full n xs ys (omega arith))

module _ (most levels : ℕ) (m : Pairs) (before : List (List ℕ)) where
  abbrev below : List ℕ → List (List ℕ)
  below child = child ∷ descendants levels m child

  -- some ids, followed by children with what is below each, cut off
  abbrev pub listed_to : List (List ℕ) → List (List ℕ)
  listed_to ids = take most (before ++ flat_map below ids)

  -- one child more, with what is below it
  pub listed_more : (done : List (List ℕ)) (child : List ℕ) (ids : List (List ℕ)) → ids ≡ listed_to done → take most ((ids ++ child ∷ []) ++ descendants levels m child) ≡ listed_to (done ++ child ∷ [])
  listed_more done child ids is =
      ap (take most) (append_assoc ids (child ∷ []) (descendants levels m child))
      ∙ ap (λ xs. take most (xs ++ below child)) is
      ∙ take_take most (before ++ flat_map below done) (below child)
      ∙ ap (take most) (append_assoc before (flat_map below done) (below child) ∙ ap (λ xs. before ++ xs) (ap (λ xs. flat_map below done ++ xs) (sym (append-nil (below child))) ∙ sym (flat_map-append below done (child ∷ []))))

  -- where there is no room, further children change nothing
  pub listed_full : (done rest ids : List (List ℕ)) → ids ≡ listed_to done → most ≤ length ids → ids ≡ listed_to (done ++ rest)
  listed_full done rest ids is full =
      is ∙ sym (take_full most (before ++ flat_map below done) (flat_map below rest) (subst (λ (xs : List (List ℕ)). most ≤ length xs) is full))
      ∙ ap (take most) (append_assoc before (flat_map below done) (flat_map below rest) ∙ ap (λ xs. before ++ xs) (sym (flat_map-append below done rest)))

  -- before the first child
  pub listed_none : length before ≤ most → before ≡ listed_to []
  listed_none room = sym (ap (take most) (append-nil before) ∙ take_all most before room)

abbrev pub ids_at : List borrowed.Place → List (List ℕ)
ids_at ps = map (λ p. p.id.now) ps

-- a loop's step: the id of the next place, and what is below it
pub listed_step : (most levels : ℕ) (m : Pairs) (before : List (List ℕ)) (part : List borrowed.Place) (i : ℕ) (d : borrowed.Place) (ids pushed told : List (List ℕ)) (id : List ℕ)
    → i < length part
    → ids ≡ listed_to most levels m before (ids_at (take i part))
    → id ≡ (get_or part i d).id.now
    → pushed ≡ ids ++ id ∷ []
    → told ≡ take most (pushed ++ descendants levels m (get_or part i d).id.now)
    → told ≡ listed_to most levels m before (ids_at (take (i + 1) part))
listed_step most levels m before part i d ids pushed told id within is id_is pushed_is told_is =
    let child = (get_or part i d).id.now in
    told_is
    ∙ ap (λ xs. take most (xs ++ descendants levels m child)) (pushed_is ∙ ap (λ x. ids ++ x ∷ []) id_is)
    ∙ listed_more most levels m before (ids_at (take i part)) child ids is
    ∙ ap (listed_to most levels m before) (sym (ap ids_at (take_more part i d within) ∙ map-append (λ (p : borrowed.Place). p.id.now) (take i part) (get_or part i d ∷ [])))

-- what is below a parent, by its children
below_parent : (levels : ℕ) (m : Pairs) (parent : List ℕ) → 0 < levels → descendants levels m parent ≡ flat_map (λ child. child ∷ descendants (levels - 1) m child) (children m parent)
unfolding descendants
below_parent zero m parent some = absurd (omega arith)
below_parent (suc levels) m parent some =
    let one_less : levels ≡ suc levels - 1 = omega arith in ap (λ k. flat_map (λ child. child ∷ descendants k m child) (children m parent)) one_less

module _ (most levels : ℕ) (m : Pairs) (parent : List ℕ) (before : List (List ℕ)) where
  -- no level is left
  pub nothing_below : levels ≡ 0 → length before ≤ most → before ≡ take most (before ++ descendants levels m parent)
  unfolding descendants
  nothing_below none room =
      sym (ap (λ k. take most (before ++ descendants k m parent)) none ∙ ap (take most) (append-nil before) ∙ take_all most before room)

  -- all children are listed
  pub listed_all : (ids : List (List ℕ)) → 0 < levels → ids ≡ listed_to most (levels - 1) m before (children m parent) → ids ≡ take most (before ++ descendants levels m parent)
  listed_all ids some is = is ∙ ap (λ xs. take most (before ++ xs)) (sym (below_parent levels m parent some))
