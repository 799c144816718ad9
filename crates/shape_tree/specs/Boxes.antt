-- The rectangles that shapes take, by themselves and with what hangs under them. Rotation is not looked at.
use Rattle.std.specs.Prelude.{ℕ, zero, suc, ℤ, pos, ◌+ℤ◌, ◌-ℤ◌, ◌≤ℤ◌, neg_ℤ, int_le, List, Bool, ◌&&◌, ◌||◌, if◌then◌else◌, Option, Some, None, option_map, option_and_then, bytes_eq, codes, map, take}
use Rattle.std.specs.Int.{int_min, int_max}
use Rattle.std.specs.List.{fold}
use Rattle.std.specs.Option.{unwrap_or}
use Rattle.rooms_val.specs.Data.{Data, Pairs, list_of, no_items}
use Rattle.rooms_val.specs.Json.{greatest_whole}
use Rattle.rooms_val.specs.Kinds.{as_whole, as_items, field}
use Rattle.rooms_val.specs.Maps.{value_at}
use Rattle.shape_tree.specs.declared.rect.Rect.{Rect}
use Rattle.shape_tree.specs.Records.{text_or_empty, is_shape}
use Rattle.shape_tree.specs.Trees.{children, most_shapes}

-- what stands under a key, where there is a map that has the key
abbrev pub under : Option Data → List ℕ → Option Data
under holder key = option_and_then (λ d. field d key) holder

-- the number where it lies from the least one on, and not above the greatest whole number of JSON; else 0
abbrev pub number_from : ℤ → Option ℤ → ℤ
number_from least None = pos 0
number_from least (Some z) = if int_le least z && int_le z (pos greatest_whole) then z else pos 0

-- a coordinate and a size under a key
abbrev pub coordinate : Option Data → List ℕ → ℤ
coordinate holder key = number_from (neg_ℤ (pos greatest_whole)) (option_and_then as_whole (under holder key))

abbrev pub size : Option Data → List ℕ → ℤ
size holder key = number_from (pos 0) (option_and_then as_whole (under holder key))

-- the rectangle of one point, with no width and no height
abbrev pub point : Option Data → Rect
point p = record { x = coordinate p (codes "x"); y = coordinate p (codes "y"); w = pos 0; h = pos 0 }

-- where a rectangle ends
abbrev pub right : Rect → ℤ
right r = r.x +ℤ r.w

abbrev pub bottom : Rect → ℤ
bottom r = r.y +ℤ r.h

-- the rectangle between two sides each way
abbrev pub spanned : ℤ → ℤ → ℤ → ℤ → Rect
spanned left top right bottom = record { x = left; y = top; w = right -ℤ left; h = bottom -ℤ top }

-- the least rectangle around two
abbrev pub around : Rect → Rect → Rect
around a b = spanned (int_min a.x b.x) (int_min a.y b.y) (int_max (right a) (right b)) (int_max (bottom a) (bottom b))

-- the number is at most this, on either side of 0
abbrev pub IsWithin : ℕ → ℤ → Type 0
IsWithin most z = (neg_ℤ (pos most) ≤ℤ z) × (z ≤ℤ pos most)

-- the numbers of a rectangle are so
pub record AreWithin (most : ℕ) (r : Rect) : Type 0 where
  pub x : IsWithin most r.x
  pub y : IsWithin most r.y
  pub w : IsWithin most r.w
  pub h : IsWithin most r.h

-- the sides of a rectangle are so
pub record HasSidesWithin (most : ℕ) (r : Rect) : Type 0 where
  pub left : IsWithin most r.x
  pub top : IsWithin most r.y
  pub right : IsWithin most (right r)
  pub bottom : IsWithin most (bottom r)

-- the least rectangle around those that are there, and none where none is
abbrev pub joined : Option Rect → Option Rect → Option Rect
joined None b = b
joined (Some a) None = Some a
joined (Some a) (Some b) = Some (around a b)

-- the same around some more
abbrev pub all_joined : Option Rect → List (Option Rect) → Option Rect
all_joined = fold joined

-- the points of a drawing; none where there is no list of them
abbrev pub points : Option Data → List Data
points props = list_of (unwrap_or (option_and_then as_items (under props (codes "points"))) no_items)

-- shapes of these types have their size among their properties
abbrev pub is_sized : List ℕ → Bool
is_sized type = bytes_eq type (codes "geo") || bytes_eq type (codes "text") || bytes_eq type (codes "frame") || bytes_eq type (codes "image")

-- the box by a width and a height, the one around some points, and the one around two ends
abbrev pub box_of_size : Option Data → Rect
box_of_size props = record { x = pos 0; y = pos 0; w = size props (codes "w"); h = size props (codes "h") }

abbrev pub box_of_points : List Data → Option Rect
box_of_points ps = all_joined None (map (λ p. Some (point (Some p))) ps)

abbrev pub box_of_ends : Option Data → Rect
box_of_ends props = around (point (under props (codes "start"))) (point (under props (codes "end")))

-- the box of a shape of a type by itself, as seen from its own place; none for a group and an unknown type
abbrev pub box_of_type : List ℕ → Option Data → Option Rect
box_of_type type props =
    if is_sized type then Some (box_of_size props)
    else if bytes_eq type (codes "note") then Some (record { x = pos 0; y = pos 0; w = pos 200; h = pos 200 })
    else if bytes_eq type (codes "draw") then box_of_points (points props)
    else if bytes_eq type (codes "arrow") then Some (box_of_ends props)
    else None

abbrev pub own_box : Data → Option Rect
own_box d = box_of_type (text_or_empty d (codes "type")) (field d (codes "props"))

-- the rectangle moved to the place of a shape
abbrev pub moved : Data → Rect → Rect
moved d r = record { x = r.x +ℤ coordinate (Some d) (codes "x"); y = r.y +ℤ coordinate (Some d) (codes "y"); w = r.w; h = r.h }

-- the record of a shape, if it is there
abbrev pub shape_at : Pairs → List ℕ → Option Data
shape_at m id = if is_shape id then value_at m id else None

-- the box of a shape with those of its children, so many levels down, at the place of the shape
unfoldable pub box : ℕ → Pairs → List ℕ → Option Rect
box zero m id = option_and_then (λ d. option_map (moved d) (own_box d)) (shape_at m id)
box (suc levels) m id =
    let below = map (box levels m) (take most_shapes (children m id)) in
    option_and_then (λ d. option_map (moved d) (all_joined (own_box d) below)) (shape_at m id)
