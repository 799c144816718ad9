use Rattle.std.proofs.Common.{◌≤◌, ◌+◌, [], Some, drop, refl, sym, ap, subst, ◌∙◌, arith}
use Rattle.rooms_val.specs.Data.{depth, map, members_of, members_depth, IsSound}
use Rattle.rooms_val.specs.View.{data_of, pairs_view}
use Rattle.rooms_val.specs.Maps.{with_key}
use Rattle.field_ops.specs.View.{edit_of}
use Rattle.field_ops.specs.Wire.{edit_data, patch_pairs}
use Rattle.rooms_val.proofs.MapsLemmas.{seen-with_key}
use Rattle.field_ops.proofs.WireLemmas.{read_at, reads, no_put, no_patch, no_append, no_delete, no_name, no_other, no_entry, no_view, one_patch, patch_in_one, depth_entry}
use Rattle.rooms_val.proofs.DataLemmas.{rising_pairs}
use Rattle.field_ops.proofs.SoundLemmas.{rising_fields_slice}
use Rattle.field_ops.proofs.WalkLemmas.{Going, going_first, going_next, going_done}
use Rattle.field_ops.proofs.+read.Goals as goal

pub object_diff::ObjectDiff::read-loop-key-init : goal.object_diff::ObjectDiff::read-loop-key-init
object_diff::ObjectDiff::read-loop-key-init t c =
    let s = c.as_slice-key-items.result.now in
    let start = going_first read_at (pairs_view s) s (λ q. refl) (reads s) (rising_fields_slice s _ c.as_slice-key-items.ensures.pairs c.as_slice-key-items.ensures.sound) in
    subst (λ r. Going read_at (pairs_view s) [] s (patch_pairs r)) (sym c.new-diff.ensures) start

pub object_diff::ObjectDiff::read-read-requires : goal.object_diff::ObjectDiff::read-read-requires
object_diff::ObjectDiff::read-read-requires t c =
    let s = c.as_slice-key-items.result.now in
    let low : depth (data_of c.loop-key-item.result.1) ≤ members_depth (members_of c.args.fields.now) =
    subst (λ f. depth (data_of c.loop-key-item.result.1) ≤ members_depth (members_of f)) c.as_slice-key-items.ensures.pairs (depth_entry s c.loop-key.key-index c.loop-key-item.result c.loop-key-test.true c.loop-key-item.is) in
    (omega (arith, c.decreases, low), tt)

pub object_diff::ObjectDiff::read-returns-in_err-read-clause-only : goal.object_diff::ObjectDiff::read-returns-in_err-read-clause-only
object_diff::ObjectDiff::read-returns-in_err-read-clause-only t c wrong p sound is =
    no_entry c.as_slice-key-items.result.now c.loop-key.key-index c.loop-key-item.result c.loop-key-test.true c.loop-key-item.is (c.in_err-read.ensures.only (let from = rw wrong at c.from_residual-in_err-read.ensures.1 in cc)) p sound.1 (c.as_slice-key-items.ensures.pairs ∙ is)

pub object_diff::ObjectDiff::read-loop-key-preserved : goal.object_diff::ObjectDiff::read-loop-key-preserved
object_diff::ObjectDiff::read-loop-key-preserved t c =
    let s = c.as_slice-key-items.result.now in
    let x = c.loop-key-item.result in
    let next = going_next read_at (pairs_view s) s c.loop-key.key-index x (patch_pairs c.loop-key.diff) (Some (data_of x.1)) (λ q. refl) c.loop-key-test.true c.loop-key-item.is refl c.loop-key.invariant in
    let made = ap patch_pairs c.in_ok-put.ensures.ok ∙ seen-with_key edit_data c.loop-key.diff c.in_ok-copy.field-0 (edit_of c.in_ok-read.field-0)
    ∙ (λ i. with_key (patch_pairs c.loop-key.diff) (c.in_ok-copy.ensures i) (sym c.in_ok-read.ensures.found i)) in
    subst (λ r. Going read_at (pairs_view s) [] (drop (c.loop-key.key-index + 1) s) r) (sym made) next

pub object_diff::ObjectDiff::read-returns-clause-found : goal.object_diff::ObjectDiff::read-returns-clause-found
object_diff::ObjectDiff::read-returns-clause-found t c =
    let s = c.as_slice-key-items.result.now in
    sym (going_done read_at (pairs_view s) s c.loop-key.key-index (patch_pairs c.loop-key.diff) (rising_pairs (pairs_view s) (subst (λ f. IsSound (map (members_of f))) (sym c.as_slice-key-items.ensures.pairs) c.as_slice-key-items.ensures.sound)) (omega arith) c.loop-key.invariant
    ∙ c.as_slice-key-items.ensures.pairs)

pub value_op::ValueOp::read-returns-in_err-val-clause-only : goal.value_op::ValueOp::read-returns-in_err-val-clause-only
value_op::ValueOp::read-returns-in_err-val-clause-only t c wrong e sound is = no_put _ _ c.in-Some.ensures.found c.in_err-val.ensures.only.1 e is

pub value_op::ValueOp::read-returns-in_err-read_patch-clause-only : goal.value_op::ValueOp::read-returns-in_err-read_patch-clause-only
value_op::ValueOp::read-returns-in_err-read_patch-clause-only t c wrong e sound is = no_patch _ _ c.in-Some-arguments.ensures.found (c.in_err-read_patch.ensures.only (let from = rw wrong at c.from_residual-in_err-read_patch.ensures.1 in cc)) e sound is

pub value_op::ValueOp::read-returns-in_err-what-clause-only : goal.value_op::ValueOp::read-returns-in_err-what-clause-only
value_op::ValueOp::read-returns-in_err-what-clause-only t c wrong e sound is =
    no_append _ _ c.in-Some-arguments-2.ensures.found (λ x n fits same appendable. c.in_err-what.ensures.only.1 x n fits same) e sound is

pub value_op::ValueOp::read-returns-in-Some-arguments-2-clause-only : goal.value_op::ValueOp::read-returns-in-Some-arguments-2-clause-only
value_op::ValueOp::read-returns-in-Some-arguments-2-clause-only t c wrong e sound is =
    no_append _ _ c.in-Some-arguments-2.ensures.found (no_other _ _ _ c.in_ok-what.ensures.found (c.append_of.ensures.only wrong)) e sound is

pub value_op::ValueOp::read-returns-else-is_empty-clause-only : goal.value_op::ValueOp::read-returns-else-is_empty-clause-only
value_op::ValueOp::read-returns-else-is_empty-clause-only t c wrong e sound is = no_delete _ _ c.in-Some-arguments-3.ensures.found (no_view c.in-Some-arguments-3.args.now c.if-is_empty.ensures) e is

pub value_op::ValueOp::read-returns-clause-only : goal.value_op::ValueOp::read-returns-clause-only
value_op::ValueOp::read-returns-clause-only t c wrong e sound is =
    no_name _ c.in_default.ensures.only c.in_default-arguments.ensures.only c.in_default-arguments-2.ensures.only c.in_default-arguments-3.ensures.only e is

pub value_op::read_patch-returns-in_err-read-in-Map-clause-only : goal.value_op::read_patch-returns-in_err-read-in-Map-clause-only
value_op::read_patch-returns-in_err-read-in-Map-clause-only t c wrong p sound is =
    c.in_err-read-in-Map.ensures.only (let from = rw wrong at c.from_residual-in_err-read-in-Map.ensures.1 in cc) p sound (patch_in_one _ _ c.in-Map.fields p c.in_ok-fields.ensures.found (ap data_of c.in-Map.is) is)

pub value_op::read_patch-returns-in_ok-read-in-Map-clause-found : goal.value_op::read_patch-returns-in_ok-read-in-Map-clause-found
value_op::read_patch-returns-in_ok-read-in-Map-clause-found t c =
    one_patch _ _ c.in-Map.fields c.in_ok-read-in-Map.field-0 c.in_ok-fields.ensures.found (ap data_of c.in-Map.is) c.in_ok-read-in-Map.ensures.found
