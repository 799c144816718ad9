use Rattle.std.proofs.Common.{◌≡◌, ◌++◌, take}
use Rattle.rooms_val.specs.View.{items_view}
use Rattle.field_ops.proofs.apply.join_lists.Given as goal

-- the list is followed by what was read so far
abbrev pub invariant-loop-val : goal.invariant-loop-val
invariant-loop-val l = l.list ≡ l.fn.items ++ items_view (take l.val-index l.val-items)
