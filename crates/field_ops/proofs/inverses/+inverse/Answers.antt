use Rattle.std.proofs.Common.{◌≡◌, ℕ, ◌+◌, ◌≤◌, List, [], Option, Some, None, option_map, drop, arith, refl, sym, ap, subst, ◌∙◌}
use Rattle.std.specs.Option.{option_and_then, option_copied}
use Rattle.rooms_val.specs.Data.{Pairs}
use Rattle.rooms_val.specs.View.{data_of}
use Rattle.rooms_val.proofs.DataLemmas.{pairs_of-members_of}
use Rattle.field_ops.specs.ValueOps.{ValueOpTree, Patch, patch, edits_of, edit_depth, edits_depth}
use Rattle.rooms_val.specs.Maps.{value_at}
use Rattle.field_ops.specs.Inverses.{undo, inverted}
use Rattle.field_ops.specs.View.{edit_of, patch_view, maybe_data, maybe_edit}
use Rattle.field_ops.specs.declared.value_op.ValueOp.{ValueOp}
use Rattle.field_ops.proofs.FallsLemmas.{depth_place}
use Rattle.rooms_val.proofs.MapsLemmas.{at-seen, option_map-after}
use Rattle.field_ops.proofs.PatchedLemmas.{at-inverted, rising-inverted}
use Rattle.field_ops.proofs.SoundLemmas.{rising_slice}
use Rattle.field_ops.proofs.WalkLemmas.{Going, going_first, going_next, going_done}
use Rattle.field_ops.proofs.inverses.+inverse.Invariants.{undone_at}
use Rattle.field_ops.proofs.inverses.+inverse.Goals as goal

seen_first : (g : ValueOpTree → Option ValueOpTree) (o : Option ValueOp) → option_and_then (λ x. g (edit_of x)) o ≡ option_and_then g (option_map edit_of o)
seen_first g None = refl
seen_first g (Some x) = refl

looks : (s : List (List ℕ × ValueOp)) (p : Patch) (f : Pairs) → patch_view s ≡ p → (q : List ℕ) → undone_at f q None (value_at s q) ≡ value_at (inverted (edits_of p) f) q
looks s p f ops q =
    seen_first (λ e. undo e (value_at f q)) (value_at s q)
    ∙ ap (option_and_then (λ e. undo e (value_at f q))) (sym (at-seen edit_of s q) ∙ ap (λ es. value_at es q) ops)
    ∙ sym (at-inverted p f q)

pub inverse_object-loop-key-init : goal.inverse_object-loop-key-init
inverse_object-loop-key-init t c =
    let s = c.as_slice-key-items.result.now in
    let target = inverted (edits_of c.args.diff.now) c.args.map.now in
    let start = going_first (undone_at c.args.map.now) target s (λ q. refl) (looks s c.args.diff.now c.args.map.now c.as_slice-key-items.ensures.pairs) (rising_slice s _ c.as_slice-key-items.ensures.pairs c.as_slice-key-items.ensures.sound) in
    subst (λ r. Going (undone_at c.args.map.now) target [] s r) (sym c.new-result.ensures) start

pub inverse_object-undo-requires : goal.inverse_object-undo-requires
inverse_object-undo-requires t c =
    let s = c.as_slice-key-items.result.now in
    let low : edit_depth (edit_of c.loop-key-item.result.1) ≤ edits_depth (edits_of c.args.diff.now) =
    subst (λ p. edit_depth (edit_of c.loop-key-item.result.1) ≤ edits_depth (edits_of p)) c.as_slice-key-items.ensures.pairs (depth_place s c.loop-key.key-index c.loop-key-item.result c.loop-key-test.true c.loop-key-item.is) in
    (omega (arith, c.decreases, low), tt)

pub inverse_object-loop-key-preserved : goal.inverse_object-loop-key-preserved
inverse_object-loop-key-preserved t c =
    let s = c.as_slice-key-items.result.now in
    let x = c.loop-key-item.result in
    let target = inverted (edits_of c.args.diff.now) c.args.map.now in
    let found : maybe_data (option_copied c.get.result) ≡ value_at c.args.map.now x.0 =
    sym (option_map-after c.get.result (λ v. v.now) data_of) ∙ c.get.ensures ∙ ap (λ k. value_at c.args.map.now k) c.as_str.ensures.bytes in
    let gives : undo (edit_of x.1) (value_at c.args.map.now x.0) ≡ maybe_edit c.in_ok-back.back = sym (c.in_ok-back.ensures ∙ ap (λ o. undo (edit_of x.1) o) found) in
    let next = going_next (undone_at c.args.map.now) target s c.loop-key.key-index x c.loop-key.result (maybe_edit c.in_ok-back.back) (λ q. refl) c.loop-key-test.true c.loop-key-item.is gives c.loop-key.invariant in
    subst (λ r. Going (undone_at c.args.map.now) target [] (drop (c.loop-key.key-index + 1) s) r) (sym c.in_ok-keep.ensures.ok) next

pub inverse_object-returns : goal.inverse_object-returns
inverse_object-returns t c =
    going_done (undone_at c.args.map.now) (inverted (edits_of c.args.diff.now) c.args.map.now) c.as_slice-key-items.result.now c.loop-key.key-index c.loop-key.result
    (rising-inverted (edits_of c.args.diff.now) c.args.map.now) (omega arith) c.loop-key.invariant

pub undo_patch-returns-in_ok-inverse_object-in-Map : goal.undo_patch-returns-in_ok-inverse_object-in-Map
undo_patch-returns-in_ok-inverse_object-in-Map t c =
    rw c.in-Map.is (ap (λ p. Some (patch (edits_of p))) (c.in_ok-inverse_object-in-Map.ensures ∙ ap (λ f. inverted (edits_of c.args.diff.now) f) (sym (pairs_of-members_of c.in-Map.fields))))
