-- What the box of a shape asks for.
use Rattle.std.specs.Prelude.{ℕ, zero, suc, List, Option, Some, None, option_map, if◌then◌else◌, map, take}
use Rattle.rooms_val.specs.Data.{Data}
use Rattle.shape_tree.specs.Records.{is_shape}
use Rattle.shape_tree.specs.Trees.{most_shapes}
use Rattle.shape_tree.specs.Boxes.{own_box, moved, all_joined}
use Rattle.tl_rules.specs.declared.key.TlKey.{TlKey}
use Rattle.tl_rules.specs.declared.key.TlKey.TheVariants as key
use Rattle.tl_rules.specs.declared.value.TlValue.{TlValue}
use Rattle.tl_rules.specs.declared.value.TlValue.TheVariants as value
use Rattle.tl_rules.specs.Plans.{Plan, ends, asks, chain, values_of}
use Rattle.tl_rules.specs.Answers.{record_in, ids_in, box_in}

-- the shape that an answer is, under an id
abbrev pub shape_in : List ℕ → TlValue → Option Data
shape_in id answer = if is_shape id then record_in answer else None

-- the boxes so many levels below a shape, joined with its own and moved to its place
abbrev pub joined_boxes : Data → List TlValue → TlValue
joined_boxes shape boxes = value.Rect (option_map (moved shape) (all_joined (own_box shape) (map box_in boxes)))

-- once the record is known: where it is a shape, and there are levels to go, the children and their boxes are asked for
abbrev pub shape_plan : List ℕ → ℕ → Option Data → Plan TlKey TlValue TlValue
shape_plan id levels None = ends (value.Rect None)
shape_plan id zero (Some shape) = ends (value.Rect (option_map (moved shape) (own_box shape)))
shape_plan id (suc levels) (Some shape) =
    asks (key.ByParent id) (λ children. chain (values_of (λ child. key.Box child levels) (take most_shapes (ids_in children))) (λ boxes. ends (joined_boxes shape boxes)))

-- the box of a shape with what is so many levels below it
abbrev pub box_plan : List ℕ → ℕ → Plan TlKey TlValue TlValue
box_plan id levels = asks (key.Rec id) (λ answer. shape_plan id levels (shape_in id answer))
