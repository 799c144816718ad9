use Rattle.std.proofs.Common.{◌++◌, ◌∷◌, [], ◌+◌, Some, drop, codes, refl, sym, ap, subst, ◌∙◌, arith}
use Rattle.rooms_val.specs.Data.{list, map, item, no_items, items_of, members_of}
use Rattle.rooms_val.specs.Maps.{AreRising, with_key}
use Rattle.field_ops.specs.View.{edit_of, patch_view}
use Rattle.field_ops.specs.Wire.{edit_data, named, patch_pairs}
use Rattle.field_ops.proofs.WireLemmas.{members_of-patch_pairs, sends, rising_sent}
use Rattle.field_ops.proofs.SoundLemmas.{rising_ops}
use Rattle.field_ops.proofs.WalkLemmas.{Going, going_first, going_next, going_done}
use Rattle.field_ops.proofs.+print.Invariants.{sent_at}
use Rattle.field_ops.proofs.+print.Goals as goal

pub object_diff::ObjectDiff::to_fields-loop-key-init : goal.object_diff::ObjectDiff::to_fields-loop-key-init
object_diff::ObjectDiff::to_fields-loop-key-init t c =
    let s = c.deref-key-items.result.now in
    let start = going_first sent_at (patch_pairs (patch_view s)) s (λ q. refl) (sends s) (subst AreRising (sym c.deref-key-items.ensures.value) (rising_ops c.self.inside.entries.items c.self.invariant)) in
    subst (λ r. Going sent_at (patch_pairs (patch_view s)) [] s r) (sym c.new-fields.ensures) start

pub object_diff::ObjectDiff::to_fields-loop-key-preserved : goal.object_diff::ObjectDiff::to_fields-loop-key-preserved
object_diff::ObjectDiff::to_fields-loop-key-preserved t c =
    let s = c.deref-key-items.result.now in
    let x = c.loop-key-item.result in
    let next = going_next sent_at (patch_pairs (patch_view s)) s c.loop-key.key-index x c.loop-key.fields (Some (edit_data (edit_of x.1))) (λ q. refl) c.loop-key-test.true c.loop-key-item.is refl c.loop-key.invariant in
    let made = c.in_ok-put.ensures.ok ∙ (λ i. with_key c.loop-key.fields (c.in_ok-copy.ensures i) (c.in_ok-to_val.ensures i)) in
    subst (λ r. Going sent_at (patch_pairs (patch_view s)) [] (drop (c.loop-key.key-index + 1) s) r) (sym made) next

pub object_diff::ObjectDiff::to_fields-returns : goal.object_diff::ObjectDiff::to_fields-returns
object_diff::ObjectDiff::to_fields-returns t c =
    let s = c.deref-key-items.result.now in
    going_done sent_at (patch_pairs (patch_view s)) s c.loop-key.key-index c.loop-key.fields
    (rising_sent s (subst AreRising (sym c.deref-key-items.ensures.value) (rising_ops c.self.inside.entries.items c.self.invariant))) (omega arith) c.loop-key.invariant
    ∙ ap (λ es. patch_pairs (patch_view es)) c.deref-key-items.ensures.value ∙ ap patch_pairs c.self.view_is

pub value_op::ValueOp::to_val-returns-in_ok-with-in-Patch : goal.value_op::ValueOp::to_val-returns-in_ok-with-in-Patch
value_op::ValueOp::to_val-returns-in_ok-with-in-Patch t c =
    rw c.in-Patch.is (ap (λ l. list (items_of l)) (c.in_ok-with-in-Patch.ensures ∙ (λ i. c.in_ok-list_of_name-in-Patch.ensures i ++ map (members_of (c.in_ok-to_fields-in-Patch.ensures i)) ∷ []))
    ∙ ap (λ m. named (codes "patch") (item (map m) no_items)) (members_of-patch_pairs c.in-Patch.diff))
