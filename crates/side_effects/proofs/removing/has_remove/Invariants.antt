use Rattle.std.proofs.Common.{◌≡◌, drop}
use Rattle.std.specs.List.{list_any}
use Rattle.field_ops.specs.ViewRecordOps.{changes_view}
use Rattle.side_effects.specs.Removed.{is_remove}
use Rattle.side_effects.proofs.removing.has_remove.Given as goal

-- the operations that are left decide
abbrev pub invariant-loop-op : goal.invariant-loop-op
invariant-loop-op l =
    list_any (λ c. is_remove c.1) (changes_view (drop l.op-index l.op-items)) ≡ list_any (λ c. is_remove c.1) (changes_view l.op-items)
