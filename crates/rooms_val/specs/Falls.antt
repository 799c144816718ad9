-- Each value inside a list or map is less deep than the list or map.
use Rattle.std.specs.Prelude.{◌≤◌, ℕ, suc, max, List, [], ◌∷◌}
use Rattle.std.proofs.Common.{arith}
use denote.Param.Weighed.{most}
use Rattle.rooms_val.specs.Data.{depth, items_of, items_depth, members_of, members_depth}
use Rattle.rooms_val.specs.View.{data_of, items_view, pairs_view}
use Rattle.rooms_val.specs.declared.val.Val.{Val}
use Rattle.rooms_val.specs.declared.val.Val.TheVariants.{Null, Bool, Int, Text, List as List', Map}
use Rattle.std.specs.Prelude.{Option, None, Some}
use Rattle.std.specs.declared.alloc.Global.{Global}
use Rattle.std.specs.declared.sync.Arc.{Arc}
use Rattle.std.specs.declared.vec.Vec.{Vec}
use Rattle.rooms_val.specs.Shared.{shared_items}
use Rattle.rooms_val.specs.declared.fields.Fields.TheDeep.{deep-Val, deep-Fields, deep-Vals}
use Rattle.rooms_val.specs.declared.fields.Fields.TheShapes.{weighed-Fields-entries-at-2 as weighed_entry}

-- no `Val` is deeper than its value, by the depth that the logic counts from one level on
pub deep_le-depth : (v : Val) → deep-Val v ≤ suc (depth (data_of v))
deep_le-depth Null = omega arith
deep_le-depth (Bool b) = omega arith
deep_le-depth (Int z) = omega arith
deep_le-depth (Text s) = omega arith
deep_le-depth (List' ds) = omega arith
deep_le-depth (Map ps) = omega arith

pub items_fall : (vs : List Val) → max (most (λ v. deep-Val v) vs) 0 ≤ suc (items_depth (items_of (items_view vs)))
items_fall [] = omega arith
items_fall (v ∷ vs) = omega (arith, deep_le-depth v, items_fall vs)

pub pairs_fall : (es : List (List ℕ × Val)) → max (most (λ e. weighed_entry.weight Val deep-Val e) es) 0 ≤ suc (members_depth (members_of (pairs_view es)))
pairs_fall [] = omega arith
pairs_fall (e ∷ es) = omega (arith, deep_le-depth e.1, pairs_fall es)

pub vals_fall : (heap : Global) (o : Option (Arc (Vec Val Global) Global)) → deep-Vals (record { alloc = heap; items = o }) ≤ suc (items_depth (items_of (items_view (shared_items o))))
vals_fall heap None = omega arith
vals_fall heap (Some a) = omega (arith, items_fall a.value.items)

pub fields_fall : (heap : Global) (o : Option (Arc (Vec (List ℕ × Val) Global) Global)) → deep-Fields (record { alloc = heap; entries = o }) ≤ suc (members_depth (members_of (pairs_view (shared_items o))))
fields_fall heap None = omega arith
fields_fall heap (Some a) = omega (arith, pairs_fall a.value.items)
