use Rattle.std.proofs.Common.{◌+◌, drop, option_map, sym, ap, subst, arith, ◌∙◌}
use Rattle.std.proofs.lemmas.List.{drop_all}
use Rattle.rooms_val.specs.Data.{map, members_of}
use Rattle.rooms_val.specs.Maps.{value_at, set_at}
use Rattle.rooms_val.specs.View.{data_of}
use Rattle.rooms_val.proofs.DataLemmas.{pairs_of-members_of, rising_pairs}
use Rattle.rooms_val.proofs.ListLemmas.{one_off}
use Rattle.rooms_val.proofs.MapsLemmas.{option_map-after}
use Rattle.field_ops.specs.Patched.{edited, patched, value_after}
use Rattle.field_ops.specs.ValueOps.{edits_of, edits_depth}
use Rattle.field_ops.specs.View.{edit_of, patch_view}
use Rattle.field_ops.proofs.ApplyLemmas.{left_next, left_none}
use Rattle.field_ops.proofs.FallsLemmas.{depth_place}
use Rattle.field_ops.proofs.PatchedLemmas.{at-patched, rising-patched}
use Rattle.field_ops.proofs.SoundLemmas.{rising_slice}
use Rattle.field_ops.proofs.apply.+apply.Goals as goal

pub apply_object-ops-init : goal.apply_object-ops-init
apply_object-ops-init t c =
    let pairs = c.as_slice-key-items.ensures.pairs in
    record {
      rises = rising_slice _ _ pairs c.as_slice-key-items.ensures.sound;
      at = λ q.
          at-patched c.args.diff.now c.args.map.now q
          ∙ ap (λ p. value_after (value_at p q) (value_at c.args.map.now q)) (sym pairs)
          ∙ ap (λ f. value_after (value_at (patch_view c.as_slice-key-items.result.now) q) (value_at f q)) (sym c.in_ok-result.ensures);
    }

pub apply_object-edited_val-requires : goal.apply_object-edited_val-requires
apply_object-edited_val-requires t c =
    let place = depth_place c.as_slice-key-items.result.now c.ops.key-index c.ops-item.result c.ops-test.true c.ops-item.is in
    let same = ap (λ p. edits_depth (edits_of p)) c.as_slice-key-items.ensures.pairs in
    (omega (arith, c.decreases, place, same), tt)

pub apply_object-ops-preserved : goal.apply_object-ops-preserved
apply_object-ops-preserved t c =
    let items = c.as_slice-key-items.result.now in
    let i = c.ops.key-index in
    let x = c.ops-item.result in
    let old = option_map-after c.get.result (λ v. v.now) data_of in
    let found = sym old ∙ c.get.ensures ∙ ap (value_at c.ops.result) c.as_str.ensures.bytes in
    let made = c.in_ok-set.ensures ∙ ap (set_at c.ops.result x.0) (c.in_ok-val.ensures ∙ ap (edited (edit_of x.1)) found) in
    left_next (patched (edits_of c.args.diff.now) c.args.map.now) (drop i items) (drop (i + 1) items) x c.ops.result _ (one_off items i x c.ops-test.true c.ops-item.is) made c.ops.invariant

pub apply_object-returns : goal.apply_object-returns
apply_object-returns t c =
    let rising = rising-patched (edits_of c.args.diff.now) c.args.map.now in
    left_none (patched (edits_of c.args.diff.now) c.args.map.now) _ c.ops.result (drop_all c.ops.key-index c.as_slice-key-items.result.now c.ops-test.false) (rising (rising_pairs _ c.len.ensures.sound)) (rising_pairs _ c.len-2.ensures.sound) c.ops.invariant

pub patched_val-returns-in_ok-apply_object-in-Map : goal.patched_val-returns-in_ok-apply_object-in-Map
patched_val-returns-in_ok-apply_object-in-Map t c =
    rw c.in-Map.is (ap (λ f. map (members_of f)) (c.in_ok-apply_object-in-Map.ensures ∙ ap (λ f. patched (edits_of c.args.diff.now) f) (sym (pairs_of-members_of c.in-Map.fields))))
