-- Pages before and after a diff.
use Rattle.std.proofs.Common.{◌≡◌, ℕ, Bool, true, false, ◌&&◌, ◌||◌, cond, List, [], ◌∷◌, Option, Some, None, inl, inr, refl, sym, ap, ◌∙◌}
use Rattle.std.specs.Prelude.{is_some, not}
use Rattle.std.specs.List.{list_any}
use Rattle.rooms_val.proofs.Truths.{and_true, and_left, and_right, or_left, or_right, iff_same}
use Rattle.rooms_val.specs.Data.{Data, Pairs}
use Rattle.rooms_val.specs.Maps.{value_at, keys_of, ties, AreRising}
use Rattle.rooms_val.proofs.MapsLemmas.{ties_same}
use Rattle.field_ops.specs.Laws.{raw_after}
use Rattle.field_ops.specs.RecordOps.{RecordOpTree, put, patch, remove, RecordOps}
use Rattle.doc_model.specs.Documents.{fold_raw}
use Rattle.doc_model.proofs.MergeLemmas.{at-fold_raw}
use Rattle.side_effects.proofs.ReachingLemmas.{any_in, in_any, or_cases}
use Rattle.side_effects.specs.Records.{is_page, has}
use Rattle.side_effects.specs.Removed.{is_remove}
use Rattle.side_effects.specs.Whole.{has_page, is_page_in, last_page}
use Rattle.side_effects.specs.declared.fault.EditFault.TheVariants.{LastPage}
use Rattle.side_effects.proofs.FilterLemmas.{is_in-keys, keys-is_in}

any_keys : {V : Type 0} (p : List ℕ → Bool) (es : List (List ℕ × V)) → list_any (λ e. p e.0) es ≡ list_any p (keys_of es)
any_keys p [] = refl
any_keys p (e ∷ es) = ap (λ b. p e.0 || b) (any_keys p es)

-- a page of a map
page_of : (m : Pairs) → has_page m ≡ true → (id : List ℕ) × (is_page id ≡ true) × (has m id ≡ true)
page_of m is = let found = in_any is_page (keys_of m) (sym (any_keys is_page m) ∙ is) in (found.0, found.2, keys-is_in m found.0 found.1)

of_page : (m : Pairs) (id : List ℕ) → is_page id ≡ true → has m id ≡ true → has_page m ≡ true
of_page m id page there = any_keys is_page m ∙ any_in is_page id (keys_of m) (is_in-keys m id there) page

module _ (m : Pairs) (diff : RecordOps) (rising : AreRising diff) where
  abbrev after : Pairs
  after = fold_raw m diff

  abbrev found_after : Bool
  found_after = list_any (is_page_in after) (keys_of m) || list_any (λ c. is_page_in after c.0) diff

  place : (id : List ℕ) → is_page_in after id ≡ true → has after id ≡ true → found_after ≡ true
  place id page there = elim (value_at diff id) as (λ o. value_at diff id ≡ o → is_some (raw_after o (value_at m id)) ≡ true → found_after ≡ true) [
    | None ↦ λ _ held. or_left (list_any (is_page_in after) (keys_of m)) (list_any (λ c. is_page_in after c.0) diff) (any_in (is_page_in after) id (keys_of m) (is_in-keys m id held) page)
    | Some c ↦ λ named _. or_right (list_any (is_page_in after) (keys_of m)) (list_any (λ d. is_page_in after d.0) diff) (any_keys (is_page_in after) diff ∙ any_in (is_page_in after) id (keys_of diff) (is_in-keys diff id (ap is_some named)) page)
  ] refl (sym (ap is_some (at-fold_raw diff m id rising)) ∙ there)

  from_page : (id : List ℕ) → is_page_in after id ≡ true → has_page after ≡ true
  from_page id is = of_page after id (and_left (is_page id) (has after id) is) (and_right (is_page id) (has after id) is)

  -- a page is there after the diff where one of the ids before it, or of those that it names, is one
  pub page_after : found_after ≡ has_page after
  page_after =
      iff_same found_after (has_page after)
      (λ is. elim (or_cases (list_any (is_page_in after) (keys_of m)) (list_any (λ c. is_page_in after c.0) diff) is) [
        | inl held ↦ let found = in_any (is_page_in after) (keys_of m) held in from_page found.0 found.2
        | inr named ↦ let found = in_any (is_page_in after) (keys_of diff) (sym (any_keys (is_page_in after) diff) ∙ named) in from_page found.0 found.2
      ])
      (λ is. let found = page_of after is in place found.0 (and_true (is_page found.0) (has after found.0) found.1 found.2) found.2)

  not_removed : (es : RecordOps) (id : List ℕ) (c : RecordOpTree) → list_any (λ e. is_page e.0 && is_remove e.1) es ≡ false → is_page id ≡ true → value_at es id ≡ Some c → is_remove c ≡ false
  not_removed [] id c none page is = absurd (let no : None ≡ Some c = is in (cc))
  not_removed (e ∷ es) id c none page is = elim (is_page e.0 && is_remove e.1) as (λ b. (is_page e.0 && is_remove e.1) ≡ b → (b || list_any (λ x. is_page x.0 && is_remove x.1) es) ≡ false → is_remove c ≡ false) [
    | true ↦ λ _ never. absurd (let no : true ≡ false = never in (cc))
    | false ↦ λ here later. elim (ties id e.0) as (λ t. ties id e.0 ≡ t → cond t (Some e.1) (value_at es id) ≡ Some c → is_remove c ≡ false) [
      | true ↦ λ same one.
          let op : e.1 ≡ c = cc in
          ap is_remove (sym op) ∙ sym (ap (λ b. b && is_remove e.1) (ap is_page (sym (ties_same id e.0 same)) ∙ page)) ∙ here
      | false ↦ λ _ there. not_removed es id c later page there
    ] refl is
  ] refl none

  stays : (o : Option RecordOpTree) (r : Option Data) → is_some r ≡ true → ((c : RecordOpTree) → o ≡ Some c → is_remove c ≡ false) → is_some (raw_after o r) ≡ true
  stays None r there kept = there
  stays (Some (put d)) r there kept = refl
  stays (Some (patch p)) None there kept = there
  stays (Some (patch p)) (Some d) there kept = refl
  stays (Some remove) r there kept = absurd (let no : true ≡ false = kept remove refl in (cc))

  -- where no page is removed, none is lost
  pub no_page_lost : list_any (λ c. is_page c.0 && is_remove c.1) diff ≡ false → last_page m after ≡ None
  no_page_lost none = elim (has_page m) as (λ b. has_page m ≡ b → cond (b && not (has_page after)) (Some LastPage) None ≡ None) [
    | true ↦ λ had.
        let found = page_of m had in
        let there : has after found.0 ≡ true = ap is_some (at-fold_raw diff m found.0 rising) ∙ stays (value_at diff found.0) (value_at m found.0) found.2 (λ c named. not_removed diff found.0 c none found.1 named) in
        ap (λ b. cond (not b) (Some LastPage) None) (of_page after found.0 found.1 there)
    | false ↦ λ _. refl
  ] refl

  module _ (ids : List (List ℕ)) (are : ids ≡ keys_of m) where
    abbrev still : Bool
    still = list_any (is_page_in after) ids || list_any (λ c. is_page_in after c.0) diff

    had_is : list_any is_page ids ≡ has_page m
    had_is = ap (list_any is_page) are ∙ sym (any_keys is_page m)

    still_is : still ≡ has_page after
    still_is = ap (λ ks. list_any (is_page_in after) ks || list_any (λ c. is_page_in after c.0) diff) are ∙ page_after

    pub none_had : list_any is_page ids ≡ false → last_page m after ≡ None
    none_had is = ap (λ b. cond (b && not (has_page after)) (Some LastPage) None) (sym had_is ∙ is)

    pub one_left : still ≡ true → last_page m after ≡ None
    one_left is = elim (has_page m) as (λ b. cond (b && not (has_page after)) (Some LastPage) None ≡ None) [
      | true ↦ ap (λ b. cond (not b) (Some LastPage) None) (sym still_is ∙ is)
      | false ↦ refl
    ]

    pub all_lost : list_any is_page ids ≡ true → still ≡ false → last_page m after ≡ Some LastPage
    all_lost had gone = λ i. cond ((sym had_is ∙ had) i && not ((sym still_is ∙ gone) i)) (Some LastPage) None
