-- No number of a box is beyond 2^60.
use Rattle.std.proofs.Common.{◌≡◌, ◌^◌, ℕ, zero, suc, ◌+◌, ◌*◌, ◌≤◌, ℤ, pos, neg_ℤ, ◌≤ℤ◌, Bool, true, false, if◌then◌else◌, List, [], ◌∷◌, map, take, Option, Some, None, option_map, option_and_then, IfSome, arith, subst}
use Rattle.std.specs.Prelude.{codes, bytes_eq}
use Rattle.std.specs.List.{fold}
use Rattle.std.proofs.lemmas.Int.{ints}
use Rattle.rooms_val.specs.Data.{Data, Pairs}
use Rattle.rooms_val.specs.Json.{greatest_whole}
use Rattle.rooms_val.specs.Kinds.{as_whole, field}
use Rattle.shape_tree.specs.declared.rect.Rect.{Rect}
use Rattle.shape_tree.specs.Records.{text_or_empty}
use Rattle.shape_tree.specs.Trees.{children, most_levels, most_shapes}
use Rattle.shape_tree.specs.Boxes.{under, number_from, coordinate, size, point, points, is_sized, own_box, joined, moved, shape_at, box, AreWithin, HasSidesWithin}
use Rattle.shape_tree.proofs.BoxesLemmas.{sides_around, small_numbers}

-- what holds of the sides of a box, if it is there
abbrev pub Small : ℕ → Option Rect → Type 0
Small most b = IfSome b (HasSidesWithin most)

pub small_joined : (most : ℕ) (a b : Option Rect) → Small most a → Small most b → Small most (joined a b)
small_joined most None b left right = right
small_joined most (Some a) None left right = left
small_joined most (Some a) (Some b) left right = sides_around most a b left right

small_if : (most : ℕ) (b : Bool) (x y : Option Rect) → Small most x → Small most y → Small most (if b then x else y)
small_if most true x y left right = left
small_if most false x y left right = right

wider : (least most : ℕ) (b : Option Rect) → least ≤ most → Small least b → Small most b
wider least most None more sides = tt
wider least most (Some r) more sides = record {
  left = (omega (arith, ints, sides.left), omega (arith, ints, sides.left));
  top = (omega (arith, ints, sides.top), omega (arith, ints, sides.top));
  right = (omega (arith, ints, sides.right), omega (arith, ints, sides.right));
  bottom = (omega (arith, ints, sides.bottom), omega (arith, ints, sides.bottom));
}

from_least : (least : ℤ) (o : Option ℤ) → least ≤ℤ pos 0 → least ≤ℤ number_from least o
from_least least None low = low
from_least least (Some z) low = grind (arith, ints)

to_greatest : (least : ℤ) (o : Option ℤ) → number_from least o ≤ℤ pos greatest_whole
to_greatest least None = omega (arith, ints)
to_greatest least (Some z) = grind (arith, ints)

module _ (holder : Option Data) (key : List ℕ) where
  coordinate_low : neg_ℤ (pos greatest_whole) ≤ℤ coordinate holder key
  coordinate_low = from_least (neg_ℤ (pos greatest_whole)) (option_and_then as_whole (under holder key)) (omega (arith, ints))

  coordinate_high : coordinate holder key ≤ℤ pos greatest_whole
  coordinate_high = to_greatest (neg_ℤ (pos greatest_whole)) (option_and_then as_whole (under holder key))

  size_low : pos 0 ≤ℤ size holder key
  size_low = from_least (pos 0) (option_and_then as_whole (under holder key)) (omega (arith, ints))

  size_high : size holder key ≤ℤ pos greatest_whole
  size_high = to_greatest (pos 0) (option_and_then as_whole (under holder key))

sized_sides : (w h : ℤ) → pos 0 ≤ℤ w → w ≤ℤ pos greatest_whole → pos 0 ≤ℤ h → h ≤ℤ pos greatest_whole → HasSidesWithin greatest_whole (record { x = pos 0; y = pos 0; w = w; h = h })
sized_sides w h a b c d = record {
  left = (omega (arith, ints), omega (arith, ints));
  top = (omega (arith, ints), omega (arith, ints));
  right = (omega (arith, ints), omega (arith, ints));
  bottom = (omega (arith, ints), omega (arith, ints));
}

corner_sides : (x y : ℤ) → neg_ℤ (pos greatest_whole) ≤ℤ x → x ≤ℤ pos greatest_whole → neg_ℤ (pos greatest_whole) ≤ℤ y → y ≤ℤ pos greatest_whole → HasSidesWithin greatest_whole (record { x = x; y = y; w = pos 0; h = pos 0 })
corner_sides x y a b c d = record {
  left = (a, b);
  top = (c, d);
  right = (omega (arith, ints), omega (arith, ints));
  bottom = (omega (arith, ints), omega (arith, ints));
}

point_sides : (p : Option Data) → HasSidesWithin greatest_whole (point p)
point_sides p =
    corner_sides (coordinate p (codes "x")) (coordinate p (codes "y")) (coordinate_low p (codes "x")) (coordinate_high p (codes "x")) (coordinate_low p (codes "y")) (coordinate_high p (codes "y"))

small_points : (ps : List Data) (start : Option Rect) → Small greatest_whole start → Small greatest_whole (fold joined start (map (λ p. Some (point (Some p))) ps))
small_points [] start sides = sides
small_points (p ∷ ps) start sides = small_points ps (joined start (Some (point (Some p)))) (small_joined greatest_whole start (Some (point (Some p))) sides (point_sides (Some p)))

pub small_own : (d : Data) → Small greatest_whole (own_box d)
small_own d =
    let type = text_or_empty d (codes "type") in
    let props = field d (codes "props") in
    small_if greatest_whole (is_sized type) _ _
    (sized_sides (size props (codes "w")) (size props (codes "h")) (size_low props (codes "w")) (size_high props (codes "w")) (size_low props (codes "h")) (size_high props (codes "h")))
    (small_if greatest_whole (bytes_eq type (codes "note")) _ _ (sized_sides (pos 200) (pos 200) (omega (arith, ints)) (omega (arith, ints)) (omega (arith, ints)) (omega (arith, ints)))
    (small_if greatest_whole (bytes_eq type (codes "draw")) _ _ (small_points (points props) None tt)
    (small_if greatest_whole (bytes_eq type (codes "arrow")) _ _
    (sides_around greatest_whole (point (under props (codes "start"))) (point (under props (codes "end"))) (point_sides (under props (codes "start"))) (point_sides (under props (codes "end")))) tt)))

moved_sides : (most : ℕ) (d : Data) (r : Rect) → HasSidesWithin most r → HasSidesWithin (most + greatest_whole) (moved d r)
moved_sides most d r sides =
    let low_x = coordinate_low (Some d) (codes "x") in
    let high_x = coordinate_high (Some d) (codes "x") in
    let low_y = coordinate_low (Some d) (codes "y") in
    let high_y = coordinate_high (Some d) (codes "y") in record {
      left = (omega (arith, ints, sides.left, low_x), omega (arith, ints, sides.left, high_x));
      top = (omega (arith, ints, sides.top, low_y), omega (arith, ints, sides.top, high_y));
      right = (omega (arith, ints, sides.right, low_x), omega (arith, ints, sides.right, high_x));
      bottom = (omega (arith, ints, sides.bottom, low_y), omega (arith, ints, sides.bottom, high_y));
    }

small_moved : (most : ℕ) (d : Data) (b : Option Rect) → Small most b → Small (most + greatest_whole) (option_map (moved d) b)
small_moved most d None sides = tt
small_moved most d (Some r) sides = moved_sides most d r sides

small_placed : (most : ℕ) (inner : Data → Option Rect) → ((d : Data) → Small most (inner d)) → (o : Option Data) → Small (most + greatest_whole) (option_and_then (λ d. option_map (moved d) (inner d)) o)
small_placed most inner sides None = tt
small_placed most inner sides (Some d) = small_moved most d (inner d) (sides d)

small_below : (most levels : ℕ) (m : Pairs) → ((id : List ℕ) → Small most (box levels m id)) → (ids : List (List ℕ)) (start : Option Rect) → Small most start → Small most (fold joined start (map (box levels m) ids))
small_below most levels m each [] start sides = sides
small_below most levels m each (id ∷ ids) start sides = small_below most levels m each ids (joined start (box levels m id)) (small_joined most start (box levels m id) sides (each id))

-- the sides of a box so many levels down
pub small_box : (levels : ℕ) (m : Pairs) (id : List ℕ) → Small ((levels + 2) * greatest_whole) (box levels m id)
unfolding box
small_box zero m id = small_placed greatest_whole own_box small_own (shape_at m id)
small_box (suc levels) m id =
    let most = (levels + 2) * greatest_whole in
    let below = λ (d : Data). fold joined (own_box d) (map (box levels m) (take most_shapes (children m id))) in
    let more : most + greatest_whole ≡ (suc levels + 2) * greatest_whole = omega arith in
    subst (λ (n : ℕ). Small n (box (suc levels) m id)) more
    (small_placed most below (λ d. small_below most levels m (small_box levels m) (take most_shapes (children m id)) (own_box d) (wider greatest_whole most (own_box d) (omega arith) (small_own d))) (shape_at m id))

numbers_of : (b : Option Rect) (most : ℕ) → most ≤ 2 ^ 59 → Small most b → IfSome b (AreWithin (2 ^ 60))
numbers_of None most few sides = tt
numbers_of (Some r) most few sides = small_numbers most few r sides

pub small_boxes : (m : Pairs) (id : List ℕ) (levels : ℕ) → levels ≤ most_levels → IfSome (box levels m id) (AreWithin (2 ^ 60))
small_boxes m id levels few = numbers_of (box levels m id) ((levels + 2) * greatest_whole) (omega arith) (small_box levels m id)
