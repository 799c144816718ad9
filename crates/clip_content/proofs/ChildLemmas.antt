-- The children of what is pasted.
use Rattle.std.proofs.Common.{◌≡◌, ℕ, ◌<◌, Bool, true, false, ◌&&◌, cond, List, [], ◌∷◌, length, map, Option, Some, None, Ordering, is_eq, inl, refl, sym, ap, subst, ◌∙◌}
use Rattle.std.specs.Prelude.{filter, is_some, not, codes, unwrap_or, option_map, option_to_list}
use Rattle.std.specs.Ordering.{is_lt, ordering_then}
use Rattle.std.proofs.lemmas.Bool.{and_from}
use Rattle.rooms_val.proofs.Truths.{unnot_true, unnot_false, and_left, and_right}
use Rattle.rooms_val.specs.Data.{Data, Pairs}
use Rattle.rooms_val.specs.Kinds.{as_map, text_at}
use Rattle.rooms_val.specs.Maps.{order, ties, value_at, AreRising}
use Rattle.rooms_val.proofs.MapsLemmas.{ties_same, by_tie, none_later, rising_rest, order_itself}
use Rattle.shape_tree.specs.Records.{is_shape}
use Rattle.side_effects.specs.ReachingLaws.{IsIn}
use Rattle.shape_tree.specs.Sorting.{inserted, in_order}
use Rattle.side_effects.specs.Records.{parent_of, index_of, has}
use Rattle.shape_tree.specs.Trees.{Sibling, sibling_of, sibling_order, is_child, children}
use Rattle.side_effects.specs.Whole.{parents}
use Rattle.room_model.specs.Clips.{ClipTree, TargetTree, is_prefix}
use Rattle.clip_content.specs.Copied.{is_copied, shapes_under}
use Rattle.clip_content.specs.Pasted.{new_shape, is_top, with_place, moved_by, pasted_inner, pasted_top, pasted_shape, pasted_shapes}
use Rattle.clip_content.proofs.CopyLemmas.{copied_closed}
use Rattle.clip_content.proofs.FieldLemmas.{IsMap, map_kept, text_kept, no_field, placed_map, placed_parent, placed_index, moved_map}
use Rattle.side_effects.proofs.FilterLemmas.{at-filter, kept_at}
use Rattle.clip_content.proofs.IdLemmas.{new_shape_id}
use Rattle.clip_content.proofs.PlaceLemmas.{new_order}
use Rattle.clip_content.proofs.TopLemmas.{Each, each-weaker, each-filter, each-in_order}

-- a map entry by entry
pub later_at : {V : Type 0} (e : List ℕ × V) (es : List (List ℕ × V)) (q : List ℕ) (v : V) → AreRising (e ∷ es) → value_at es q ≡ Some v → value_at (e ∷ es) q ≡ Some v
later_at e es q v rising is = by_tie (λ t. cond t (Some e.1) (value_at es q) ≡ Some v) q e.0 (λ same. absurd (let never : None ≡ Some v = sym (none_later e es rising) ∙ ap (value_at es) (sym same) ∙ is in (cc))) is

abbrev pub IsAt : {V : Type 0} → List (List ℕ × V) → List ℕ × V → Type 0
IsAt es e = value_at es e.0 ≡ Some e.1

pub each_at : {V : Type 0} (es : List (List ℕ × V)) → AreRising es → Each (IsAt es) es
each_at [] rising = tt
each_at (e ∷ es) rising = (
  ap (λ o. cond (is_eq o) (Some e.1) (value_at es e.0)) (order_itself e.0),
  each-weaker (IsAt es) (IsAt (e ∷ es)) (λ f is. later_at e es f.0 f.1 rising is) es (each_at es (rising_rest e es rising)),
)

module _ {X Y : Type 0} (g : X → Y) (test : Y → Bool) (before : X → Bool) where
  -- what passes of the images is the image of what passes
  pub filter_map : (xs : List X) → Each (λ x. test (g x) ≡ before x) xs → filter test (map g xs) ≡ map g (filter before xs)
  filter_map [] same = refl
  filter_map (x ∷ xs) same = ap (λ b. cond b (g x ∷ filter test (map g xs)) (filter test (map g xs))) same.0 ∙ (elim (before x) as (λ b. cond b (g x ∷ filter test (map g xs)) (filter test (map g xs)) ≡ map g (cond b (x ∷ filter before xs) (filter before xs))) [
    | true ↦ ap (λ ys. g x ∷ ys) (filter_map xs same.1)
    | false ↦ filter_map xs same.1
  ])

module _ {X Y Z : Type 0} (f : X → Z) (g : X → Y) (h : Y → Z) where
  pub map_same : (xs : List X) → Each (λ x. f x ≡ h (g x)) xs → map f xs ≡ map h (map g xs)
  map_same [] same = refl
  map_same (x ∷ xs) same = λ i. same.0 i ∷ map_same xs same.1 i

module _ {X : Type 0} (test first_test : X → Bool) where
  -- a second test that what passes the first passes too takes nothing away
  pub filter_twice : (xs : List X) → Each (λ x. test x ≡ true → first_test x ≡ true) xs → filter test (filter first_test xs) ≡ filter test xs
  filter_twice [] all = refl
  filter_twice (x ∷ xs) all = elim (first_test x) as (λ b. (test x ≡ true → b ≡ true) → filter test (cond b (x ∷ filter first_test xs) (filter first_test xs)) ≡ cond (test x) (x ∷ filter test xs) (filter test xs)) [
    | true ↦ λ passes. ap (λ ys. cond (test x) (x ∷ ys) ys) (filter_twice xs all.1)
    | false ↦ λ passes. elim (test x) as (λ b. (b ≡ true → false ≡ true) → filter test (filter first_test xs) ≡ cond b (x ∷ filter test xs) (filter test xs)) [
      | true ↦ λ never. absurd (let no_way : false ≡ true = never refl in (cc))
      | false ↦ λ _. filter_twice xs all.1
    ] passes
  ] all.0

-- lists in order under a function that keeps the order
module _ {X : Type 0} (cmp : X → X → Ordering) (h : X → X) (Is : X → Type 0) (keeps : (x y : X) → Is x → Is y → cmp (h x) (h y) ≡ cmp x y) where
  inserted_under : (x : X) (ys : List X) → Is x → Each Is ys → inserted cmp (h x) (map h ys) ≡ map h (inserted cmp x ys)
  inserted_under x [] here each = refl
  inserted_under x (y ∷ ys) here each = ap (λ o. cond (is_lt o) (h x ∷ h y ∷ map h ys) (h y ∷ inserted cmp (h x) (map h ys))) (keeps x y here each.0) ∙ (elim (is_lt (cmp x y)) as (λ b. cond b (h x ∷ h y ∷ map h ys) (h y ∷ inserted cmp (h x) (map h ys)) ≡ map h (cond b (x ∷ y ∷ ys) (y ∷ inserted cmp x ys))) [
    | true ↦ refl
    | false ↦ ap (λ zs. h y ∷ zs) (inserted_under x ys here each.1)
  ])

  pub in_order_under : (xs : List X) → Each Is xs → in_order cmp (map h xs) ≡ map h (in_order cmp xs)
  in_order_under [] each = refl
  in_order_under (x ∷ xs) each = ap (inserted cmp (h x)) (in_order_under xs each.1) ∙ inserted_under x (in_order cmp xs) each.0 (each-in_order Is cmp xs each.1)

-- two ids of which a map has one alone aren't the same
pub apart : (m : Pairs) (a b : List ℕ) → has m a ≡ false → has m b ≡ true → ties a b ≡ false
apart m a b isnt is = by_tie (λ t. t ≡ false) a b (λ same. absurd (let never : false ≡ true = sym isnt ∙ ap (has m) same ∙ is in (cc))) refl

-- what stands in a map cut down by a test passes it
pub passes_test : {V : Type 0} (test : List ℕ × V → Bool) (es : List (List ℕ × V)) (q : List ℕ) → AreRising es → is_some (value_at (filter test es) q) ≡ true → (v : V) × (value_at es q ≡ Some v) × (test (q, v) ≡ true)
passes_test test es q rising is = by_case (value_at es q) refl (ap is_some (sym (at-filter test es q rising)) ∙ is)
  where
    by_case : (o : Option _) → value_at es q ≡ o → is_some (kept_at test q o) ≡ true → (v : _) × (value_at es q ≡ Some v) × (test (q, v) ≡ true)
    by_case None at never = absurd (let no_way : false ≡ true = never in (cc))
    by_case (Some v) at there = (v, at, (elim (test (q, v)) as (λ b. is_some (cond b (Some v) None) ≡ true → b ≡ true) [ true ↦ λ _. refl | false ↦ λ never. never ]) there)

module _ (clip : ClipTree) (target : TargetTree) where
  abbrev pub renamed : Sibling → Sibling
  renamed s = record { index = s.index; id = new_shape clip target s.id }

  module _ (few : length clip.shapes < 10000) (prefix : is_prefix target.prefix ≡ true) (indices : Pairs) where
    abbrev as_pasted : List ℕ × Data → List ℕ × Data
    as_pasted e = (new_shape clip target e.0, pasted_shape clip target indices e)

    pub new_ties : (a b : List ℕ) → has clip.shapes a ≡ true → has clip.shapes b ≡ true → ties (new_shape clip target a) (new_shape clip target b) ≡ ties a b
    new_ties a b there here = ap is_eq (new_order (codes "shape:") target.prefix clip.shapes few a b there here)

    -- a shape whose parent is copied is a map
    inner_map : has clip.shapes [] ≡ false → (d : Data) → has clip.shapes (parent_of d) ≡ true → IsMap d
    inner_map none d there = elim (is_some (as_map d)) as (λ b. is_some (as_map d) ≡ b → b ≡ true) [
      | true ↦ λ _. refl
      | false ↦ λ isnt. sym none ∙ ap (has clip.shapes) (sym (no_field d (codes "parentId") isnt)) ∙ there
    ] refl

    top_parent : (p : List ℕ) → ties target.parent (new_shape clip target p) ≡ false → (index id : List ℕ) (d : Data) → ties (parent_of (pasted_top clip target index id d)) (new_shape clip target p) ≡ false
    top_parent p other index id d = elim (is_some (as_map d)) as (λ b. is_some (as_map d) ≡ b → ties (parent_of (pasted_top clip target index id d)) (new_shape clip target p) ≡ false) [
      | true ↦ λ is.
          ap (λ q. ties q (new_shape clip target p)) (text_kept (codes "index") _ placed (codes "parentId") refl ∙ placed_parent (new_shape clip target id) target.parent moved (moved_map target.dx target.dy d ∙ is)) ∙ other
      | false ↦ λ isnt.
          ap (λ q. ties q (new_shape clip target p)) (no_field (pasted_top clip target index id d) (codes "parentId") (map_kept (codes "index") _ placed ∙ placed_map (new_shape clip target id) target.parent moved ∙ moved_map target.dx target.dy d ∙ isnt))
    ] refl
      where
        moved : Data
        moved = moved_by target.dx target.dy d

        placed : Data
        placed = with_place (new_shape clip target id) target.parent moved

    -- the pasted shape stands under the new id exactly where the shape stood under the id
    child_by : has clip.shapes [] ≡ false → (p : List ℕ) → has clip.shapes p ≡ true → ties target.parent (new_shape clip target p) ≡ false → (e : List ℕ × Data) → is_shape e.0 ≡ true
        → is_child (new_shape clip target p) (as_pasted e) ≡ is_child p e
    child_by none p there other e shape =
        ap (λ b. b && ties (parent_of (pasted_shape clip target indices e)) (new_shape clip target p)) (new_shape_id target.prefix clip.shapes e.0 prefix)
        ∙ (elim (is_top clip e.1) as (λ b. is_top clip e.1 ≡ b → ties (parent_of (cond b (pasted_top clip target (unwrap_or (text_at indices e.0) []) e.0 e.1) (pasted_inner clip target e.0 e.1))) (new_shape clip target p) ≡ ties (parent_of e.1) p) [
          | true ↦ λ is. top_parent p other (unwrap_or (text_at indices e.0) []) e.0 e.1 ∙ sym (apart clip.shapes (parent_of e.1) p (unnot_true (has clip.shapes (parent_of e.1)) is) there)
          | false ↦ λ is. let within = unnot_false (has clip.shapes (parent_of e.1)) is in
              ap (λ q. ties q (new_shape clip target p)) (placed_parent (new_shape clip target e.0) (new_shape clip target (parent_of e.1)) e.1 (inner_map none e.1 within))
              ∙ new_ties (parent_of e.1) p within there
        ]) refl
        ∙ sym (ap (λ b. b && ties (parent_of e.1) p) shape)

    index_by : (p : List ℕ) → has clip.shapes p ≡ true → (e : List ℕ × Data) → is_child p e ≡ true → sibling_of (as_pasted e) ≡ renamed (sibling_of e)
    index_by p there e is =
        let under = ties_same (parent_of e.1) p (and_right (is_shape e.0) (ties (parent_of e.1) p) is) in
        let inner : is_top clip e.1 ≡ false = ap not (ap (has clip.shapes) under ∙ there) in
        let same : index_of (pasted_shape clip target indices e) ≡ index_of e.1 =
        ap (λ b. index_of (cond b (pasted_top clip target (unwrap_or (text_at indices e.0) []) e.0 e.1) (pasted_inner clip target e.0 e.1))) inner
        ∙ placed_index (new_shape clip target e.0) (new_shape clip target (parent_of e.1)) e.1 in
        λ i. record { index = same i; id = new_shape clip target e.0 }

    -- the children of a pasted shape, by those of the clip
    pub children_in_clip : AreRising clip.shapes → Each (λ e. is_shape e.0 ≡ true) clip.shapes → has clip.shapes [] ≡ false → (p : List ℕ) → has clip.shapes p ≡ true → ties target.parent (new_shape clip target p) ≡ false
        → children (pasted_shapes clip target indices) (new_shape clip target p) ≡ map (new_shape clip target) (children clip.shapes p)
    children_in_clip rising shapes none p there other =
        let own = filter (is_child p) clip.shapes in
        let kept = filter_map as_pasted (is_child (new_shape clip target p)) (is_child p) clip.shapes (each-weaker _ _ (child_by none p there other) clip.shapes shapes) in
        let siblings : map sibling_of (map as_pasted own) ≡ map renamed (map sibling_of own) =
        sym (map_map sibling_of as_pasted own) ∙ map_same (λ e. sibling_of (as_pasted e)) sibling_of renamed own (each-weaker _ _ (index_by p there) own (each_passes (is_child p) clip.shapes)) in
        let there_all : Each (λ s. has clip.shapes s.id ≡ true) (map sibling_of own) =
        each_map sibling_of (λ s. has clip.shapes s.id ≡ true) own (each-filter _ (is_child p) clip.shapes (each-weaker (IsAt clip.shapes) (λ e. has clip.shapes e.0 ≡ true) (λ e is. ap is_some is) clip.shapes (each_at clip.shapes rising))) in
        ap (λ es. map (λ (s : Sibling). s.id) (in_order sibling_order (map sibling_of es))) kept
        ∙ ap (λ ss. map (λ (s : Sibling). s.id) (in_order sibling_order ss)) siblings
        ∙ ap (map (λ (s : Sibling). s.id)) (in_order_under sibling_order renamed (λ s. has clip.shapes s.id ≡ true) keeps (map sibling_of own) there_all)
        ∙ ids_renamed (in_order sibling_order (map sibling_of own))
      where
        keeps : (s t : Sibling) → has clip.shapes s.id ≡ true → has clip.shapes t.id ≡ true → sibling_order (renamed s) (renamed t) ≡ sibling_order s t
        keeps s t is it = ap (ordering_then (order s.index t.index)) (new_order (codes "shape:") target.prefix clip.shapes few s.id t.id is it)

        ids_renamed : (ss : List Sibling) → map (λ s. s.id) (map renamed ss) ≡ map (new_shape clip target) (map (λ s. s.id) ss)
        ids_renamed [] = refl
        ids_renamed (s ∷ ss) = ap (λ ids. new_shape clip target s.id ∷ ids) (ids_renamed ss)

        map_map : {X Y Z : Type 0} (f : Y → Z) (g : X → Y) (xs : List X) → map (λ x. f (g x)) xs ≡ map f (map g xs)
        map_map f g [] = refl
        map_map f g (x ∷ xs) = ap (λ ys. f (g x) ∷ ys) (map_map f g xs)

        each_map : {X Y : Type 0} (f : X → Y) (P : Y → Type 0) (xs : List X) → Each (λ x. P (f x)) xs → Each P (map f xs)
        each_map f P [] each = tt
        each_map f P (x ∷ xs) each = (each.0, each_map f P xs each.1)

        each_passes : {X : Type 0} (test : X → Bool) (xs : List X) → Each (λ x. test x ≡ true) (filter test xs)
        each_passes test [] = tt
        each_passes test (x ∷ xs) = elim (test x) as (λ b. test x ≡ b → Each (λ x. test x ≡ true) (cond b (x ∷ filter test xs) (filter test xs))) [
          | true ↦ λ is. (is, each_passes test xs)
          | false ↦ λ _. each_passes test xs
        ] refl

-- the children in the document are copied with their parent
module _ (m : Pairs) (ids : List (List ℕ)) (rising : AreRising m) where
  has_copied : (q : List ℕ) → has (shapes_under m ids) q ≡ true → (is_shape q && is_copied m ids q) ≡ true
  has_copied q is = (passes_test (λ e. is_shape e.0 && is_copied m ids e.0) m q rising is).2

  pub clip_is_shape : (q : List ℕ) → has (shapes_under m ids) q ≡ true → is_shape q ≡ true
  clip_is_shape q is = and_left (is_shape q) (is_copied m ids q) (has_copied q is)

  child_copied : (p : List ℕ) → is_copied m ids p ≡ true → (e : List ℕ × Data) → IsAt m e → is_child p e ≡ true → (is_shape e.0 && is_copied m ids e.0) ≡ true
  child_copied p copied e at is =
      let shape = and_left (is_shape e.0) (ties (parent_of e.1) p) is in
      let under : parents m e.0 ≡ p ∷ [] =
      ap (λ b. option_to_list (option_map parent_of (cond b (value_at m e.0) None))) shape
      ∙ ap (λ o. option_to_list (option_map parent_of o)) at
      ∙ ap (λ q. q ∷ []) (ties_same (parent_of e.1) p (and_right (is_shape e.0) (ties (parent_of e.1) p) is)) in
      and_from _ _ shape ((copied_closed m ids).below e.0 p (subst (IsIn p) (sym under) (inl refl)) copied)

  pub children_copied : (p : List ℕ) → has (shapes_under m ids) p ≡ true → children (shapes_under m ids) p ≡ children m p
  children_copied p is =
      ap (λ es. map (λ (s : Sibling). s.id) (in_order sibling_order (map sibling_of es)))
      (filter_twice (is_child p) (λ e. is_shape e.0 && is_copied m ids e.0) m
      (each-weaker (IsAt m) (λ e. is_child p e ≡ true → (is_shape e.0 && is_copied m ids e.0) ≡ true) (child_copied p (and_right (is_shape p) (is_copied m ids p) (has_copied p is))) m (each_at m rising)))
