use Rattle.std.proofs.Common.{◌≡◌, ◌&&◌, drop}
use Rattle.std.specs.List.{list_any}
use Rattle.field_ops.specs.ViewRecordOps.{changes_view}
use Rattle.side_effects.specs.Records.{is_page}
use Rattle.side_effects.specs.Removed.{is_remove}
use Rattle.side_effects.proofs.whole.removes_page.Given as goal

-- the operations that are left decide
abbrev pub invariant-ids : goal.invariant-ids
invariant-ids l =
    list_any (λ c. is_page c.0 && is_remove c.1) (changes_view (drop l.id-index l.id-items)) ≡ list_any (λ c. is_page c.0 && is_remove c.1) (changes_view l.id-items)
