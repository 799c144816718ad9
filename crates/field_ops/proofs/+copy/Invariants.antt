use Rattle.std.proofs.Common.{◌≡◌, take}
use Rattle.field_ops.specs.View.{patch_view}
use Rattle.field_ops.proofs.+copy.Given as goal

-- what was copied so far stands for what was read so far
abbrev pub invariant-object_diff::ObjectDiff::copy-loop-key : goal.invariant-object_diff::ObjectDiff::copy-loop-key
invariant-object_diff::ObjectDiff::copy-loop-key l = patch_view l.entries.items ≡ patch_view (take l.key-index l.key-items)
