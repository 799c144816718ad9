use Rattle.std.proofs.Common.{◌≡◌, true, ◌||◌, Bool, List, ℕ, drop, ◌+◌, sym, ap, ◌∙◌}
use Rattle.field_ops.specs.ValueOps.{edits_of, edits_have_append}
use Rattle.field_ops.specs.View.{patch_view}
use Rattle.field_ops.specs.declared.value_op.ValueOp.{ValueOp}
use Rattle.rooms_val.proofs.ListLemmas.{one_off}
use Rattle.field_ops.proofs.+has_append.Goals as goal

abbrev have_append : List (List ℕ × ValueOp) → Bool
have_append s = edits_have_append (edits_of (patch_view s))

pub object_diff::ObjectDiff::has_append-returns-then-has_append : goal.object_diff::ObjectDiff::has_append-returns-then-has_append
object_diff::ObjectDiff::has_append-returns-then-has_append t c =
    let parts = one_off c.deref-op-items.result.now c.loop-op.op-index c.loop-op-item.result c.loop-op-test.true c.loop-op-item.is in
    let here : true ≡ have_append (drop c.loop-op.op-index c.deref-op-items.result.now) =
    ap (λ b. b || have_append (drop (c.loop-op.op-index + 1) c.deref-op-items.result.now)) c.if-has_append.ensures ∙ sym (ap have_append parts) in
    here ∙ c.loop-op.invariant

pub object_diff::ObjectDiff::has_append-loop-op-preserved : goal.object_diff::ObjectDiff::has_append-loop-op-preserved
object_diff::ObjectDiff::has_append-loop-op-preserved t c =
    let parts = one_off c.deref-op-items.result.now c.loop-op.op-index c.loop-op-item.result c.loop-op-test.true c.loop-op-item.is in
    ap (λ b. b || have_append (drop (c.loop-op.op-index + 1) c.deref-op-items.result.now)) c.if-has_append.ensures ∙ sym (ap have_append parts) ∙ c.loop-op.invariant
