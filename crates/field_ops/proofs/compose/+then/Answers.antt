use Rattle.std.proofs.Common.{◌≡◌, ℕ, List, arith, refl, sym, ap, subst, ◌∙◌}
use Rattle.field_ops.specs.ValueOps.{Patch, patch, edits_of}
use Rattle.rooms_val.specs.Maps.{value_at}
use Rattle.field_ops.specs.Compose.{both, edit_after}
use Rattle.field_ops.specs.View.{edit_of, patch_view, maybe_edit}
use Rattle.field_ops.specs.WireRecordOps.{patch_of-edits_of}
use Rattle.field_ops.specs.declared.value_op.ValueOp.{ValueOp}
use Rattle.field_ops.proofs.FallsLemmas.{depth_found, depth_rest}
use Rattle.rooms_val.proofs.MapsLemmas.{at-seen}
use Rattle.field_ops.proofs.PatchedLemmas.{at-both, rising-both}
use Rattle.field_ops.proofs.SoundLemmas.{rising_patch, rising_slice}
use Rattle.field_ops.proofs.WalkLemmas.{Going, going_from, going_on, gone}
use Rattle.field_ops.proofs.compose.+then.Invariants.{joined_at}
use Rattle.field_ops.proofs.compose.+then.Goals as goal

looks : (ls rs : List (List ℕ × ValueOp)) (p q : Patch) → patch_view ls ≡ p → patch_view rs ≡ q → (k : List ℕ) → joined_at k (value_at ls k) (value_at rs k) ≡ value_at (both (edits_of q) p) k
looks ls rs p q firsts seconds k =
    (λ i. edit_after (sym (at-seen edit_of rs k) i) (sym (at-seen edit_of ls k) i)) ∙ (λ i. edit_after (value_at (seconds i) k) (value_at (firsts i) k)) ∙ sym (at-both q p k)

pub after-returns-in_ok-both-in-Patch-first : goal.after-returns-in_ok-both-in-Patch-first
after-returns-in_ok-both-in-Patch-first t c =
    rw (c.in-Patch.is, c.in-Patch-first.is) (ap (λ p. patch (edits_of p)) (c.in_ok-both-in-Patch-first.ensures ∙ ap (λ p. both (edits_of c.in-Patch.diff) p) (sym (patch_of-edits_of c.in-Patch-first.earlier))))

pub both-keys-init : goal.both-keys-init
both-keys-init t c =
    let target = both (edits_of c.args.second.now) c.args.first.now in
    let start = going_from joined_at target c.as_slice-firsts.result.now c.as_slice-seconds.result.now (λ q. refl)
    (looks _ _ _ _ c.as_slice-firsts.ensures.pairs c.as_slice-seconds.ensures.pairs)
    (rising_slice _ _ c.as_slice-firsts.ensures.pairs c.as_slice-firsts.ensures.sound) (rising_slice _ _ c.as_slice-seconds.ensures.pairs c.as_slice-seconds.ensures.sound) in
    record {
      going = subst (λ r. Going joined_at target c.as_slice-firsts.result.now c.as_slice-seconds.result.now r) (sym c.new-result.ensures) start;
      depth = rw c.as_slice-seconds.ensures.pairs (omega arith);
    }

pub both-both_at-requires : goal.both-both_at-requires
both-both_at-requires t c = (omega (arith, c.decreases, c.keys.invariant.depth, depth_found _ _ _ _ c.in-Some.ensures.right), tt)

pub both-keys-preserved : goal.both-keys-preserved
both-keys-preserved t c =
    let target = both (edits_of c.args.second.now) c.args.first.now in
    let on = going_on joined_at target _ _ _ _ c.keys.result c.in-Some.next.key.now _ _ (maybe_edit c.in_ok-op.op) (λ q. refl) c.in-Some.ensures.left c.in-Some.ensures.right (sym c.in_ok-op.ensures) c.keys.invariant.going in
    record {
      going = subst (λ r. Going joined_at target c.in-Some.next.lefts.now c.in-Some.next.rights.now r) (sym c.in_ok-keep.ensures.ok) on;
      depth = omega (arith, c.keys.invariant.depth, depth_rest _ _ _ _ c.in-Some.ensures.right);
    }

pub both-returns : goal.both-returns
both-returns t c =
    gone joined_at (both (edits_of c.args.second.now) c.args.first.now) _ _ _ (rising-both (edits_of c.args.second.now) c.args.first.now (rising_patch c.args.first.now c.as_slice-firsts.ensures.sound))
    c.in_default.ensures.none.0 c.in_default.ensures.none.1 c.keys.invariant.going
