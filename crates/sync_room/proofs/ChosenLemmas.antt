-- Records of which some are chosen by their ids, one id after another.
use Rattle.std.proofs.Common.{◌≡◌, ℕ, suc, length, Bool, true, false, cond, List, [], ◌∷◌, ◌++◌, map, filter, Option, Some, None, refl, sym, ap, subst, ◌∙◌, append_assoc, append-nil}
use Rattle.std.proofs.lemmas.List.Elements.{filter-append}
use Rattle.rooms_val.specs.Data.{Data, Pairs}
use Rattle.rooms_val.specs.Maps.{added, value_at, AreRising, with_key}
use Rattle.rooms_val.proofs.MapsLemmas.{put_last, found_within}
use Rattle.room_model.proofs.LookUpLemmas.{rising-filter}

-- nothing is left where no id is
pub nothing_left : (ids : List (List ℕ)) → length ids ≡ 0 → ids ≡ []
nothing_left [] is = refl
nothing_left (id ∷ ids) is = absurd (let none : suc (length ids) ≡ 0 = is in cc)

-- of the records up to some ids those are chosen that pass a test
abbrev pub Chosen : (List ℕ → Bool) → Pairs → Pairs → List (List ℕ) → Type 0
Chosen test all done ids = (front : Pairs) × ((left : Pairs) × ((front ++ left ≡ all) × ((done ≡ filter (λ p. test p.0) front) × (ids ≡ map (λ p. p.0) left))))

module _ (test : List ℕ → Bool) (all done : Pairs) where
  abbrev passes : List ℕ × Data → Bool
  passes p = test p.0

  pub none_chosen : (ids : List (List ℕ)) → done ≡ [] → ids ≡ map (λ p. p.0) all → Chosen test all done ids
  none_chosen ids none is = ([], (all, (refl, (none, is))))

  module _ (rising : AreRising all) (id : List ℕ) (ids : List (List ℕ)) where
    -- with one id more
    next : (front : Pairs) (p : List ℕ × Data) (left : Pairs) (more : Pairs) → front ++ p ∷ left ≡ all → ids ≡ map (λ p. p.0) left
        → more ≡ filter passes (front ++ p ∷ []) → Chosen test all more ids
    next front p left more whole is chosen = (front ++ p ∷ [], (left, (append_assoc front (p ∷ []) left ∙ whole, (chosen, is))))

    -- the record of the id is put
    pub one_chosen : (d : Data) (more : Pairs) → Chosen test all done (id ∷ ids) → test id ≡ true → value_at all id ≡ Some d → more ≡ with_key done id d
        → Chosen test all more ids
    one_chosen d more so_far passed found put = by_left so_far.0 so_far.1.0 so_far.1.1.0 so_far.1.1.1.0 so_far.1.1.1.1
      where
        by_left : (front left : Pairs) → front ++ left ≡ all → done ≡ filter passes front → id ∷ ids ≡ map (λ p. p.0) left → Chosen test all more ids
        by_left front [] whole chosen is = absurd (let none : id ∷ ids ≡ [] = is in cc)
        by_left front (p ∷ left) whole chosen is =
            let same : id ≡ p.0 = cc in
            let others : ids ≡ map (λ p. p.0) left = cc in
            let within : value_at all p.0 ≡ Some p.1 = ap (λ ps. value_at ps p.0) (sym whole) ∙ found_within front p.0 p.1 left (subst AreRising (sym whole) rising) in
            let value : d ≡ p.1 = let at = found in let there = within in let is_it = same in cc in
            let kept : passes p ≡ true = ap test (sym same) ∙ passed in
            let cut : filter passes (front ++ p ∷ left) ≡ filter passes front ++ p ∷ filter passes left =
            filter-append passes front (p ∷ left) ∙ ap (λ b. filter passes front ++ cond b (p ∷ filter passes left) (filter passes left)) kept in
            let sorted : AreRising (filter passes front ++ p ∷ filter passes left) = subst AreRising cut (rising-filter test (front ++ p ∷ left) (subst AreRising (sym whole) rising)) in
            let last : with_key (filter passes front) p.0 p.1 ≡ filter passes front ++ p ∷ [] = put_last (filter passes front) p.0 p.1 (filter passes left) sorted in
            let longer : filter passes (front ++ p ∷ []) ≡ filter passes front ++ p ∷ [] =
            filter-append passes front (p ∷ []) ∙ ap (λ b. filter passes front ++ cond b (p ∷ []) []) kept in
            let set : more ≡ with_key (filter passes front) p.0 p.1 = put ∙ (λ i. with_key (chosen i) (same i) (value i)) in
            next front p left more whole others (set ∙ last ∙ sym longer)

    -- the record of the id is passed over
    pub one_passed : Chosen test all done (id ∷ ids) → test id ≡ false → Chosen test all done ids
    one_passed so_far failed = by_left so_far.0 so_far.1.0 so_far.1.1.0 so_far.1.1.1.0 so_far.1.1.1.1
      where
        by_left : (front left : Pairs) → front ++ left ≡ all → done ≡ filter passes front → id ∷ ids ≡ map (λ p. p.0) left → Chosen test all done ids
        by_left front [] whole chosen is = absurd (let none : id ∷ ids ≡ [] = is in cc)
        by_left front (p ∷ left) whole chosen is =
            let same : id ≡ p.0 = cc in
            let others : ids ≡ map (λ p. p.0) left = cc in
            let lost : passes p ≡ false = ap test (sym same) ∙ failed in
            let longer : filter passes (front ++ p ∷ []) ≡ filter passes front =
            filter-append passes front (p ∷ []) ∙ ap (λ b. filter passes front ++ cond b (p ∷ []) []) lost ∙ append-nil (filter passes front) in
            next front p left done whole others (chosen ∙ sym longer)

    -- each id is that of a record
    pub one_there : Chosen test all done (id ∷ ids) → value_at all id ≡ None → ⊥
    one_there so_far missing = by_left so_far.0 so_far.1.0 so_far.1.1.0 so_far.1.1.1.1
      where
        by_left : (front left : Pairs) → front ++ left ≡ all → id ∷ ids ≡ map (λ p. p.0) left → ⊥
        by_left front [] whole is = let none : id ∷ ids ≡ [] = is in absurd (cc)
        by_left front (p ∷ left) whole is =
            let same : id ≡ p.0 = cc in
            let within : value_at all p.0 ≡ Some p.1 = ap (λ ps. value_at ps p.0) (sym whole) ∙ found_within front p.0 p.1 left (subst AreRising (sym whole) rising) in
            absurd (let at = missing in let there = within in let is_it = same in cc)

  pub all_chosen : Chosen test all done [] → done ≡ filter passes all
  all_chosen so_far = by_left so_far.0 so_far.1.0 so_far.1.1.0 so_far.1.1.1.0 so_far.1.1.1.1
    where
      by_left : (front left : Pairs) → front ++ left ≡ all → done ≡ filter passes front → [] ≡ map (λ p. p.0) left → done ≡ filter passes all
      by_left front [] whole chosen is = chosen ∙ ap (filter passes) (sym (append-nil front) ∙ whole)
      by_left front (p ∷ left) whole chosen is = absurd (let none : [] ≡ p.0 ∷ map (λ p. p.0) left = is in cc)

  -- what one more id makes of it: the record is set, where there is one and the id passes
  pub one_more : AreRising all → (id : List ℕ) (ids : List (List ℕ)) (more : Pairs) → Chosen test all done (id ∷ ids)
      → more ≡ cond (test id) (added done id (value_at all id)) done → Chosen test all more ids
  one_more rising id ids more so_far is = by_test (test id) refl
    where
      by_record : (r : Option Data) → test id ≡ true → value_at all id ≡ r → Chosen test all more ids
      by_record None passed missing = absurd (one_there rising id ids so_far missing)
      by_record (Some d) passed found = one_chosen rising id ids d more so_far passed found (is ∙ (λ i. cond (passed i) (added done id (found i)) done))

      by_test : (b : Bool) → test id ≡ b → Chosen test all more ids
      by_test true passed = by_record (value_at all id) passed refl
      by_test false failed =
          subst (λ x. Chosen test all x ids) (sym (is ∙ ap (λ b. cond b (added done id (value_at all id)) done) failed)) (one_passed rising id ids so_far failed)
