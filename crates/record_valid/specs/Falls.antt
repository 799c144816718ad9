-- Each check inside another is less deep than it.
use Rattle.std.specs.Prelude.{◌≤◌, ℕ, suc, max, List, [], ◌∷◌}
use Rattle.std.proofs.Common.{arith}
use denote.Param.Weighed.{most}
use Rattle.record_valid.specs.Tree.{depth, rows_of, rows_depth}
use Rattle.record_valid.specs.View.{tree_of, table_view}
use Rattle.record_valid.specs.declared.tree.Check.{Check}
use Rattle.record_valid.specs.declared.tree.Check.TheVariants.{Whole, Text, Enum, Bool, Key, Id, Nullable, ListOf, Dict, Object, ByType, Any}
use Rattle.record_valid.specs.declared.check_table.Checks.TheDeep.{deep-Check}
use Rattle.record_valid.specs.declared.check_table.Checks.TheShapes.{weighed-Checks-entries-at-2 as weighed_entry}

-- no `Check` is deeper than its tree, by the depth that the logic counts from one level on
pub deep_le-depth : (c : Check) → deep-Check c ≤ suc (depth (tree_of c))
deep_le-depth (Whole least most) = omega arith
deep_le-depth (Text most) = omega arith
deep_le-depth (Enum texts) = omega arith
deep_le-depth Bool = omega arith
deep_le-depth Key = omega arith
deep_le-depth (Id types) = omega arith
deep_le-depth (Nullable inner) = omega arith
deep_le-depth (ListOf inner) = omega arith
deep_le-depth Dict = omega arith
deep_le-depth (Object rows) = omega arith
deep_le-depth (ByType rows) = omega arith
deep_le-depth Any = omega arith

pub inner_falls : (c : Check) → max (deep-Check c) 0 ≤ suc (depth (tree_of c))
inner_falls c = omega (arith, deep_le-depth c)

pub rows_fall : (es : List (List ℕ × Check)) → max (most (λ e. weighed_entry.weight Check deep-Check e) es) 0 ≤ suc (rows_depth (rows_of (table_view es)))
rows_fall [] = omega arith
rows_fall (e ∷ es) = omega (arith, deep_le-depth e.1, rows_fall es)
