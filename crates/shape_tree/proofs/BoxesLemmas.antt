-- Sides of rectangles stay small.
use Rattle.std.proofs.Common.{◌≡◌, ◌^◌, ◌+◌, ◌<◌, ◌≤◌, lit≤, ℕ, ℤ, List, [], ◌∷◌, ◌++◌, map, take, length, get_or, Option, Some, None, IfSome, arith, ap, sym, ◌∙◌}
use Rattle.std.proofs.lemmas.List.{take_more, map-append}
use Rattle.std.proofs.lemmas.List.Sums.{fold_push}
use Rattle.rooms_val.specs.View.{data_of}
use Rattle.rooms_val.specs.declared.val.Val.{Val}
use Rattle.std.proofs.lemmas.Int.{ints, clamps}
use Rattle.rooms_val.specs.Json.{greatest_whole}
use Rattle.shape_tree.specs.declared.rect.Rect.{Rect}
use Rattle.shape_tree.specs.Boxes.{AreWithin, HasSidesWithin, around, joined, all_joined, point}

-- with such sides the width and the height are at most twice as much
pub small_numbers : (most : ℕ) → most ≤ 2 ^ 59 → (r : Rect) → HasSidesWithin most r → AreWithin (2 ^ 60) r
small_numbers most few r sides = record {
  x = (omega (arith, ints, sides.left), omega (arith, ints, sides.left));
  y = (omega (arith, ints, sides.top), omega (arith, ints, sides.top));
  w = (omega (arith, ints, sides.left, sides.right), omega (arith, ints, sides.left, sides.right));
  h = (omega (arith, ints, sides.top, sides.bottom), omega (arith, ints, sides.top, sides.bottom));
}

pub sides_around : (most : ℕ) (a b : Rect) → HasSidesWithin most a → HasSidesWithin most b → HasSidesWithin most (around a b)
sides_around most a b left right = record {
  left = (omega (arith, ints, clamps, left.left, right.left), omega (arith, ints, clamps, left.left, right.left));
  top = (omega (arith, ints, clamps, left.top, right.top), omega (arith, ints, clamps, left.top, right.top));
  right = (omega (arith, ints, clamps, left.right, right.right), omega (arith, ints, clamps, left.right, right.right));
  bottom = (omega (arith, ints, clamps, left.bottom, right.bottom), omega (arith, ints, clamps, left.bottom, right.bottom));
}

pub sides_joined : (a : Option Rect) (b : Rect) → IfSome a (HasSidesWithin greatest_whole) → HasSidesWithin greatest_whole b → IfSome (joined a (Some b)) (HasSidesWithin greatest_whole)
sides_joined None b left right = right
sides_joined (Some a) b left right = sides_around greatest_whole a b left right

pub small_found : (a : Option Rect) → IfSome a (HasSidesWithin greatest_whole) → IfSome a (AreWithin (2 ^ 60))
small_found None sides = tt
small_found (Some r) sides = small_numbers greatest_whole (lit≤ tt) r sides

pub rect_is : (x y w h : ℤ) (r : Rect) → x ≡ r.x → y ≡ r.y → w ≡ r.w → h ≡ r.h → record { x = x; y = y; w = w; h = h } ≡ r
rect_is x y w h r p q s t = λ i. record { x = p i; y = q i; w = s i; h = t i }

abbrev pub corner_of : Val → Option Rect
corner_of v = Some (point (Some (data_of v)))

-- one point more
pub joined_more : (vals : List Val) (i : ℕ) (v : Val) → i < length vals → v ≡ get_or vals i v → all_joined None (map corner_of (take (i + 1) vals)) ≡ joined (all_joined None (map corner_of (take i vals))) (corner_of v)
joined_more vals i v within is =
    ap (λ vs. all_joined None (map corner_of vs)) (take_more vals i v within ∙ ap (λ w. take i vals ++ w ∷ []) (sym is))
    ∙ ap (all_joined None) (map-append corner_of (take i vals) (v ∷ []))
    ∙ fold_push joined None (map corner_of (take i vals)) (corner_of v)
