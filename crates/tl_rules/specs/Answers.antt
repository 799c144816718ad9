-- What an answer is, where it is of the kind that was asked for. An answer of another kind counts as nothing, and so does a
-- box with a side that is further away than any that is computed.
use Rattle.std.specs.Prelude.{ℕ, ◌^◌, ℤ, pos, neg_ℤ, ◌+ℤ◌, int_le, List, [], Bool, ◌&&◌, if◌then◌else◌, Option, Some, None, option_map}
use Rattle.rooms_val.specs.Data.{Data}
use Rattle.rooms_val.specs.View.{data_of}
use Rattle.shape_tree.specs.declared.rect.Rect.{Rect}
use Rattle.tl_rules.specs.declared.value.TlValue.{TlValue}
use Rattle.tl_rules.specs.declared.value.TlValue.TheVariants as value

-- the record, where there is one
abbrev pub record_in : TlValue → Option Data
record_in (value.Rec r) = option_map data_of r
record_in (value.Ids ids) = None
record_in (value.Number n) = None
record_in (value.Rect r) = None

-- the ids
abbrev pub ids_in : TlValue → List (List ℕ)
ids_in (value.Ids ids) = ids
ids_in (value.Rec r) = []
ids_in (value.Number n) = []
ids_in (value.Rect r) = []

-- how far a side may be away from 0
abbrev pub most_side : ℕ
most_side = 2 ^ 59

abbrev pub is_near : ℤ → Bool
is_near z = int_le (neg_ℤ (pos most_side)) z && int_le z (pos most_side)

-- both sides, each way
abbrev pub are_near : ℤ → ℤ → Bool
are_near start size = is_near start && is_near (start +ℤ size)

abbrev pub is_small : Rect → Bool
is_small r = are_near r.x r.w && are_near r.y r.h

-- the box, where there is one
abbrev pub box_in : TlValue → Option Rect
box_in (value.Rect None) = None
box_in (value.Rect (Some r)) = if is_small r then Some r else None
box_in (value.Rec r) = None
box_in (value.Ids ids) = None
box_in (value.Number n) = None
