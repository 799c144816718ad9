use Rattle.std.proofs.Common.{◌≡◌, take}
use Rattle.field_ops.specs.ViewRecordOps.{changes_view}
use Rattle.field_ops.proofs.diff.Diff.copy.Given as goal

-- what was copied so far stands for what was read so far
abbrev pub invariant-loop-id : goal.invariant-loop-id
invariant-loop-id l = changes_view l.entries.items ≡ changes_view (take l.id-index l.id-items)
