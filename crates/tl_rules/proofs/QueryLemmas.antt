-- Over atoms that say what a map says, the value of each key is what the plain query says of the map.
use Rattle.std.proofs.Common.{◌≡◌, ℕ, zero, suc, ◌-◌, ◌<◌, ◌≤◌, List, [], ◌∷◌, ◌++◌, length, map, take, Option, Some, None, option_map, refl, sym, ◌∙◌, ap, arith}
use Rattle.std.specs.Prelude.{option_and_then, codes, bytes_eq, true, false, nat_le, if◌then◌else◌}
use Rattle.std.specs.List.{flat_map, zip}
use Rattle.rooms_val.specs.Data.{Data, Pairs}
use Rattle.rooms_val.specs.Maps.{AreRising, value_at}
use Rattle.signal_rules.specs.Values.{value}
use Rattle.shape_tree.specs.declared.rect.Rect.{Rect}
use Rattle.shape_tree.specs.Records.{text_or_empty, is_binding, is_shape}
use Rattle.shape_tree.specs.Trees.{children, descendants, tree, bound, count, most_levels, most_shapes}
use Rattle.shape_tree.specs.Boxes.{box, shape_at, own_box, moved, all_joined}
use Rattle.tl_rules.specs.declared.key.TlKey.{TlKey}
use Rattle.tl_rules.specs.declared.key.TlKey.TheVariants as key
use Rattle.tl_rules.specs.declared.value.TlValue.{TlValue}
use Rattle.tl_rules.specs.declared.value.TlValue.TheVariants as told
use Rattle.tl_rules.specs.Plans.{ends, outcome, chain, values_of}
use Rattle.tl_rules.specs.Answers.{record_in, ids_in, box_in}
use Rattle.tl_rules.specs.Asking.{merged}
use Rattle.tl_rules.specs.Trees.{Listing, each, below, most_at_once, below_known, row_plan, page_plan}
use Rattle.tl_rules.specs.Boxes.{shape_in, shape_plan}
use Rattle.tl_rules.specs.Meaning.{rank_of, plan_of, tl_asks, tl_meaning}
use Rattle.tl_rules.specs.Lawful.{tl_lawful}
use Rattle.tl_rules.specs.Atoms.{ArePlainAtoms}
use Rattle.tl_rules.proofs.PlanLemmas.{outcome-chain, outcome-values, value_by_plan, value_of_atom}
use Rattle.tl_rules.proofs.MergeLemmas.{merged_common}
use Rattle.tl_rules.proofs.BoxLemmas.{small_in, record_back}

take-nil : {X : Type 0} (n : ℕ) → let none : List X = [] in take n none ≡ none
take-nil zero = refl
take-nil (suc n) = refl

take_on : {X : Type 0} (n : ℕ) (xs ys : List X) → take n (xs ++ ys) ≡ take n xs ++ take (n - length (take n xs)) ys
take_on zero xs ys = refl
take_on (suc n) [] ys = let same : suc n ≡ suc n - 0 = omega arith in ap (λ k. take k ys) same
take_on (suc n) (x ∷ xs) ys =
    let same : n - length (take n xs) ≡ suc n - suc (length (take n xs)) = omega arith in
    ap (λ rest. x ∷ rest) (take_on n xs ys ∙ ap (λ k. take n xs ++ take k ys) same)

module _ (atoms : TlKey → TlValue) (m : Pairs) (plain : ArePlainAtoms atoms m) where
  abbrev value_of : TlKey → TlValue
  value_of = value tl_meaning atoms

  by_plan : (k : TlKey) → 0 < rank_of k → value_of k ≡ outcome value_of (plan_of k)
  unfolding tl_asks
  by_plan k above = value_by_plan tl_meaning atoms tl_lawful k (plan_of k) above (λ got. refl)

  at_atom : (k : TlKey) → rank_of k ≡ 0 → value_of k ≡ atoms k
  at_atom k at = value_of_atom tl_meaning atoms tl_lawful k at

  pub bound_value : AreRising m → (id : List ℕ) → value_of (key.Bound id) ≡ told.Ids (bound m id)
  bound_value rising id =
      by_plan (key.Bound id) (omega arith)
      ∙ (λ i. told.Ids (merged (ids_in ((at_atom (key.BoundFrom id) refl ∙ plain.bound_from id) i)) (ids_in ((at_atom (key.BoundTo id) refl ∙ plain.bound_to id) i))))
      ∙ ap told.Ids (merged_common (λ e. is_binding e.0) (λ e. bytes_eq (text_or_empty e.1 (codes "fromId")) id) (λ e. bytes_eq (text_or_empty e.1 (codes "toId")) id) m rising)

  children_are : (id : List ℕ) → ids_in (value_of (key.ByParent id)) ≡ children m id
  children_are id = ap ids_in (at_atom (key.ByParent id) refl ∙ plain.children_of id)

  each_listed : {X : Type 0} (id_of : X → List ℕ) (go : ℕ → X → Listing) (under : X → List (List ℕ)) → ((left : ℕ) (x : X) → outcome value_of (go left x) ≡ take left (under x))
      → (left : ℕ) (xs : List X) → outcome value_of (each id_of go left xs) ≡ take left (flat_map (λ x. id_of x ∷ under x) xs)
  each_listed id_of go under same left [] = sym (take-nil left)
  each_listed id_of go under same zero (x ∷ xs) = refl
  each_listed id_of go under same (suc left) (x ∷ xs) =
      outcome-chain value_of (go left x) (λ found. chain (each id_of go (left - length found) xs) (λ more. ends (id_of x ∷ found ++ more)))
      ∙ ap (λ found. outcome value_of (chain (each id_of go (left - length found) xs) (λ more. ends (id_of x ∷ found ++ more)))) (same left x)
      ∙ outcome-chain value_of (each id_of go (left - length (take left (under x))) xs) (λ more. ends (id_of x ∷ take left (under x) ++ more))
      ∙ ap (λ more. id_of x ∷ take left (under x) ++ more) (each_listed id_of go under same (left - length (take left (under x))) xs)
      ∙ ap (λ rest. id_of x ∷ rest) (sym (take_on left (under x) (flat_map (λ x. id_of x ∷ under x) xs)))

  below_listed : (levels left : ℕ) (id : List ℕ) → outcome value_of (below levels left id) ≡ take left (descendants levels m id)
  unfolding below descendants
  below_listed zero left id = sym (take-nil left)
  below_listed (suc levels) left id =
      ap (λ ids. outcome value_of (each (λ id. id) (below levels) left ids)) (children_are id)
      ∙ each_listed (λ id. id) (below levels) (descendants levels m) (below_listed levels) left (children m id)

  -- an id, and what is so many levels below its children
  abbrev with_below : ℕ → List ℕ → List (List ℕ)
  with_below levels id = id ∷ descendants (suc levels) m id

  known_below : (levels : ℕ) (ids : List (List ℕ)) → flat_map (λ x. x.0 ∷ flat_map (λ c. c ∷ descendants levels m c) (ids_in x.1)) (zip ids (map (λ id. value_of (key.ByParent id)) ids)) ≡ flat_map (with_below levels) ids
  unfolding descendants
  known_below levels [] = refl
  known_below levels (id ∷ ids) = λ i. (id ∷ flat_map (λ c. c ∷ descendants levels m c) (children_are id i)) ++ known_below levels ids i

  known_listed : (levels left : ℕ) (ids : List (List ℕ)) → outcome value_of (below_known levels left ids (map (λ id. value_of (key.ByParent id)) ids)) ≡ take left (flat_map (with_below levels) ids)
  known_listed levels left ids =
      each_listed (λ x. x.0) (λ room x. each (λ id. id) (below levels) room (ids_in x.1)) (λ x. flat_map (λ c. c ∷ descendants levels m c) (ids_in x.1))
      (λ room x. each_listed (λ id. id) (below levels) (descendants levels m) (below_listed levels) room (ids_in x.1)) left (zip ids (map (λ id. value_of (key.ByParent id)) ids))
      ∙ ap (take left) (known_below levels ids)

  row_listed : (levels left : ℕ) (ids : List (List ℕ)) → outcome value_of (row_plan levels left ids) ≡ take left (flat_map (with_below levels) ids)
  row_listed levels left ids =
      elim (nat_le (length ids) most_at_once) as (λ b. outcome value_of (if b then chain (values_of key.ByParent ids) (below_known levels left ids) else each (λ id. id) (below (suc levels)) left ids) ≡ take left (flat_map (with_below levels) ids)) [
        | true ↦ outcome-chain value_of (values_of key.ByParent ids) (below_known levels left ids) ∙ ap (λ children. outcome value_of (below_known levels left ids children)) (outcome-values key.ByParent value_of ids) ∙ known_listed levels left ids
        | false ↦ each_listed (λ id. id) (below (suc levels)) (descendants (suc levels) m) (below_listed (suc levels)) left ids
      ]

  page_listed : (levels left : ℕ) (page : List ℕ) → outcome value_of (page_plan levels left page) ≡ take left (descendants (suc (suc levels)) m page)
  unfolding descendants
  page_listed levels left page =
      ap (λ ids. outcome value_of (row_plan levels left ids)) (children_are page) ∙ row_listed levels left (children m page)

  pub tree_value : (page : List ℕ) → value_of (key.Tree page) ≡ told.Ids (tree m page)
  tree_value page =
      by_plan (key.Tree page) (omega arith)
      ∙ outcome-chain value_of (page_plan (most_levels - 2) most_shapes page) (λ ids. ends (told.Ids ids))
      ∙ ap told.Ids (page_listed (most_levels - 2) most_shapes page)

  pub count_value : (page : List ℕ) → value_of (key.Count page) ≡ told.Number (count m page)
  count_value page = by_plan (key.Count page) (omega arith) ∙ ap (λ v. told.Number (length (ids_in v))) (tree_value page)

  record_is : (id : List ℕ) → record_in (value_of (key.Rec id)) ≡ value_at m id
  record_is id = ap record_in (at_atom (key.Rec id) refl ∙ plain.record_at id) ∙ record_back (value_at m id)

  -- once the record is known, with no levels to go
  shape_alone : (id : List ℕ) (shape : Option Data) → shape ≡ shape_at m id → outcome value_of (shape_plan id zero shape) ≡ told.Rect (box zero m id)
  unfolding box
  shape_alone id None is = ap (λ o. told.Rect (option_and_then (λ d. option_map (moved d) (own_box d)) o)) is
  shape_alone id (Some shape) is = ap (λ o. told.Rect (option_and_then (λ d. option_map (moved d) (own_box d)) o)) is

  module _ (levels : ℕ) (lower : (child : List ℕ) → box_in (value_of (key.Box child levels)) ≡ box levels m child) where
    boxes_in : (ids : List (List ℕ)) → map box_in (map (λ child. value_of (key.Box child levels)) ids) ≡ map (box levels m) ids
    boxes_in [] = refl
    boxes_in (child ∷ ids) = λ i. lower child i ∷ boxes_in ids i

    -- the box of a shape, by those of its children
    abbrev with_children : List (List ℕ) → Option Data → TlValue
    with_children ids o = told.Rect (option_and_then (λ d. option_map (moved d) (all_joined (own_box d) (map (box levels m) (take most_shapes ids)))) o)

    abbrev by_boxes : Data → List (Option Rect) → TlValue
    by_boxes shape boxes = told.Rect (option_map (moved shape) (all_joined (own_box shape) boxes))

    -- once the record is known, with levels to go
    shape_joined : (id : List ℕ) (shape : Option Data) → shape ≡ shape_at m id → outcome value_of (shape_plan id (suc levels) shape) ≡ told.Rect (box (suc levels) m id)
    unfolding box
    shape_joined id None is = ap (with_children (children m id)) is
    shape_joined id (Some shape) is =
        let ids = ids_in (value_of (key.ByParent id)) in
        outcome-chain value_of (values_of (λ child. key.Box child levels) (take most_shapes ids)) (λ boxes. ends (by_boxes shape (map box_in boxes)))
        ∙ ap (λ boxes. by_boxes shape (map box_in boxes)) (outcome-values (λ child. key.Box child levels) value_of (take most_shapes ids))
        ∙ ap (by_boxes shape) (boxes_in (take most_shapes ids))
        ∙ ap (λ l. with_children l (Some shape)) (children_are id)
        ∙ ap (with_children (children m id)) is

  shape_is : (id : List ℕ) → shape_in id (value_of (key.Rec id)) ≡ shape_at m id
  shape_is id = ap (λ o. if is_shape id then o else None) (record_is id)

  pub box_value : (levels : ℕ) → levels ≤ most_levels → (id : List ℕ) → value_of (key.Box id levels) ≡ told.Rect (box levels m id)
  box_value zero few id = by_plan (key.Box id zero) (omega arith) ∙ shape_alone id (shape_in id (value_of (key.Rec id))) (shape_is id)
  box_value (suc levels) few id =
      let less : levels ≤ most_levels = omega arith in
      by_plan (key.Box id (suc levels)) (omega arith)
      ∙ shape_joined levels (λ child. ap box_in (box_value levels less child) ∙ small_in levels m child less) id (shape_in id (value_of (key.Rec id))) (shape_is id)
