-- Computed boxes are near enough to 0 to be read back, and records are read back.
use Rattle.std.proofs.Common.{◌≡◌, ◌^◌, ℕ, suc, ◌+◌, ◌-◌, ◌*◌, ◌<◌, ◌≤◌, lit≤, ℤ, ◌+ℤ◌, List, [], ◌∷◌, ◌++◌, length, map, take, get_or, Bool, true, ◌&&◌, Option, Some, None, option_map, IfSome, refl, sym, ◌∙◌, ap, subst, arith}
use Rattle.std.specs.Prelude.{if◌then◌else◌, Result, Ok, Err, IfOk}
use Rattle.std.proofs.lemmas.List.{take_more, map-append}
use Rattle.std.proofs.lemmas.List.Sums.{fold_push}
use Rattle.rooms_val.specs.declared.val.Val.{Val}
use Rattle.tl_rules.specs.Exact.{val_from_data}
use Rattle.std.proofs.lemmas.Int.{ints}
use Rattle.rooms_val.specs.Data.{Data, null, boolean, whole, text, list, map as map_data, Items, no_items, item, items_of, list_of, Pairs}
use Rattle.rooms_val.specs.Json.{greatest_whole}
use Rattle.rooms_val.specs.View.{data_of, val_of}
use Rattle.rooms_val.proofs.DataLemmas.{members_of-pairs_of}
use Rattle.shape_tree.specs.declared.rect.Rect.{Rect}
use Rattle.shape_tree.specs.Trees.{most_levels, most_shapes}
use Rattle.shape_tree.specs.Boxes.{box, joined, all_joined, AreWithin, HasSidesWithin, IsWithin}
use Rattle.shape_tree.proofs.BoxesLemmas.{small_numbers}
use Rattle.shape_tree.proofs.SmallLemmas.{small_box, small_joined}
use Rattle.tl_rules.specs.declared.value.TlValue.{TlValue}
use Rattle.tl_rules.specs.declared.value.TlValue.TheVariants as told
use Rattle.signal_rules.specs.declared.rules.Ask.TheVariants.{Need, Done}
use Rattle.tl_rules.specs.declared.key.TlKey.{TlKey}
use Rattle.tl_rules.specs.declared.key.TlKey.TheVariants as key
use Rattle.tl_rules.specs.Plans.{Plan, ends, place_after, ask_at, asked, chain, values_of}
use Rattle.tl_rules.specs.Boxes.{shape_in, shape_plan, box_plan, joined_boxes}
use Rattle.tl_rules.proofs.PlanLemmas.{go_on, place-chain, values_needed, values_ended}
use Rattle.tl_rules.specs.Answers.{record_in, ids_in, box_in, most_side, is_near, are_near, is_small}

items_of-list_of : (ds : Items) → items_of (list_of ds) ≡ ds
items_of-list_of no_items = refl
items_of-list_of (item d ds) = ap (λ rest. item d rest) (items_of-list_of ds)

data_of-val_of : (d : Data) → data_of (val_of d) ≡ d
data_of-val_of null = refl
data_of-val_of (boolean b) = refl
data_of-val_of (whole z) = refl
data_of-val_of (text t) = refl
data_of-val_of (list ds) = ap list (items_of-list_of ds)
data_of-val_of (map_data ms) = ap map_data (members_of-pairs_of ms)

pub record_back : (o : Option Data) → record_in (told.Rec (option_map val_of o)) ≡ o
record_back None = refl
record_back (Some d) = ap Some (data_of-val_of d)

module _ (most : ℕ) (few : most ≤ most_side) where
  near_true : (z : ℤ) → IsWithin most z → is_near z ≡ true
  near_true z near = let low = near.0 in let high = near.1 in grind (arith, ints)

  both_true : (a b : Bool) → a ≡ true → b ≡ true → (a && b) ≡ true
  both_true a b p q = λ i. p i && q i

  small_true : (r : Rect) → HasSidesWithin most r → is_small r ≡ true
  small_true r sides =
      both_true (are_near r.x r.w) (are_near r.y r.h)
      (both_true (is_near r.x) (is_near (r.x +ℤ r.w)) (near_true r.x sides.left) (near_true (r.x +ℤ r.w) sides.right))
      (both_true (is_near r.y) (is_near (r.y +ℤ r.h)) (near_true r.y sides.top) (near_true (r.y +ℤ r.h) sides.bottom))

  read_back : (b : Option Rect) → IfSome b (HasSidesWithin most) → box_in (told.Rect b) ≡ b
  read_back None sides = refl
  read_back (Some r) sides = ap (λ t. if t then Some r else None) (small_true r sides)

-- a computed box is read back
pub small_in : (levels : ℕ) (m : Pairs) (id : List ℕ) → levels ≤ most_levels → box_in (told.Rect (box levels m id)) ≡ box levels m id
small_in levels m id few = read_back ((levels + 2) * greatest_whole) (omega arith) (box levels m id) (small_box levels m id)

-- with sides so near to 0 the numbers are small enough to be joined
pub numbers_small : (b : Option Rect) → IfSome b (HasSidesWithin most_side) → IfSome b (AreWithin (2 ^ 60))
numbers_small None sides = tt
numbers_small (Some r) sides = small_numbers most_side (lit≤ tt) r sides

-- one box more
pub boxes_more : (own : Option Rect) (boxes : List TlValue) (i : ℕ) (v : TlValue) (found now r : Option Rect) → i < length boxes → v ≡ get_or boxes i v
    → found ≡ all_joined own (map box_in (take i boxes)) → r ≡ box_in v → now ≡ joined found r → now ≡ all_joined own (map box_in (take (i + 1) boxes))
boxes_more own boxes i v found now r within is so_far read join =
    join ∙ (λ j. joined (so_far j) (read j))
    ∙ sym (ap (λ vs. all_joined own (map box_in vs)) (take_more boxes i v within ∙ ap (λ w. take i boxes ++ w ∷ []) (sym is))
    ∙ ap (all_joined own) (map-append box_in (take i boxes) (v ∷ []))
    ∙ fold_push joined own (map box_in (take i boxes)) (box_in v))

pub small_more : (found now r : Option Rect) → IfSome found (HasSidesWithin most_side) → IfSome r (HasSidesWithin most_side) → now ≡ joined found r → IfSome now (HasSidesWithin most_side)
small_more found now r left right is = subst (λ (b : Option Rect). IfSome b (HasSidesWithin most_side)) (sym is) (small_joined most_side found r left right)

-- values that stand for the same are the same
pub copy_same : {E : Type 0} (r : Result Val E) (x : Val) → IfOk r (λ v. data_of v ≡ data_of x) → IfOk r (λ v. v ≡ x)
copy_same (Ok v) x is = val_from_data v x is
copy_same (Err e) x is = tt

-- what a box asks for, once its shape and the children are known
module _ (id : List ℕ) (levels : ℕ) (shape : Data) (got rest boxes : List TlValue) (answer below : TlValue) (ids children : List (List ℕ))
    (first : got ≡ answer ∷ rest) (there : Some shape ≡ shape_in id answer) (some : 0 < levels) (second : rest ≡ below ∷ boxes) (ids_are : ids ≡ ids_in below) (children_are : children ≡ take most_shapes ids) where
  abbrev box_key : List ℕ → TlKey
  box_key child = key.Box child (levels - 1)

  abbrev ends_joined : List TlValue → Plan TlKey TlValue TlValue
  ends_joined known = ends (joined_boxes shape known)

  opened : asked (box_plan id levels) got ≡ ask_at (go_on (place_after (values_of box_key children) boxes) ends_joined)
  opened =
      let level : levels ≡ suc (levels - 1) = omega arith in
      ap (asked (box_plan id levels)) first
      ∙ ap (λ o. asked (shape_plan id levels o) rest) (sym there)
      ∙ ap (λ n. asked (shape_plan id n (Some shape)) rest) level
      ∙ ap (asked (shape_plan id (suc (levels - 1)) (Some shape))) second
      ∙ ap (λ l. asked (chain (values_of box_key l) ends_joined) boxes) (sym (children_are ∙ ap (take most_shapes) ids_are))
      ∙ ap ask_at (place-chain (values_of box_key children) ends_joined boxes)

  pub box_needs : (child : List ℕ) (less : ℕ) → length boxes < length children → child ≡ get_or children (length boxes) child → less ≡ levels - 1 → Need (key.Box child less) ≡ asked (box_plan id levels) got
  box_needs child less few here one_less =
      (λ i. Need (key.Box (here i) (one_less i)))
      ∙ sym (opened ∙ ap (λ p. ask_at (go_on p ends_joined)) (values_needed box_key children boxes child few))

  pub box_done : (known : List TlValue) (result : TlValue) → length children ≤ length boxes → known ≡ take (length children) boxes → result ≡ joined_boxes shape known → Done result ≡ asked (box_plan id levels) got
  box_done known result all front is =
      ap Done (is ∙ ap (joined_boxes shape) front)
      ∙ sym (opened ∙ ap (λ p. ask_at (go_on p ends_joined)) (values_ended box_key children boxes all))
