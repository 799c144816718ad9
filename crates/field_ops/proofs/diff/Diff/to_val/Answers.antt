use Rattle.std.proofs.Common.{[], ◌+◌, Some, drop, refl, sym, ap, subst, ◌∙◌, arith}
use Rattle.rooms_val.specs.Data.{map, members_of}
use Rattle.rooms_val.specs.Maps.{AreRising, with_key}
use Rattle.field_ops.specs.ViewRecordOps.{change_of, changes_view}
use Rattle.field_ops.specs.WireRecordOps.{change_data, diff_pairs, diff_data}
use Rattle.field_ops.proofs.WireLemmas.{sends_records, rising_records_sent}
use Rattle.field_ops.proofs.SoundLemmas.{rising_records}
use Rattle.field_ops.proofs.WalkLemmas.{Going, going_first, going_next, going_done}
use Rattle.field_ops.proofs.diff.Diff.to_val.Invariants.{sent_at}
use Rattle.field_ops.proofs.diff.Diff.to_val.Goals as goal

pub loop-id-init : goal.loop-id-init
loop-id-init c =
    let s = c.deref-id-items.result.now in
    let start = going_first sent_at (diff_pairs (changes_view s)) s (λ q. refl) (sends_records s) (subst AreRising (sym c.deref-id-items.ensures.value) (rising_records c.self.inside.entries.items c.self.invariant)) in
    subst (λ r. Going sent_at (diff_pairs (changes_view s)) [] s r) (sym c.new-fields.ensures) start

pub loop-id-preserved : goal.loop-id-preserved
loop-id-preserved c =
    let s = c.deref-id-items.result.now in
    let x = c.loop-id-item.result in
    let next = going_next sent_at (diff_pairs (changes_view s)) s c.loop-id.id-index x c.loop-id.fields (Some (change_data (change_of x.1))) (λ q. refl) c.loop-id-test.true c.loop-id-item.is refl c.loop-id.invariant in
    let made = c.in_ok-put.ensures.ok ∙ (λ i. with_key c.loop-id.fields (c.in_ok-copy.ensures i) (c.in_ok-to_val.ensures i)) in
    subst (λ r. Going sent_at (diff_pairs (changes_view s)) [] (drop (c.loop-id.id-index + 1) s) r) (sym made) next

pub returns : goal.returns
returns c =
    let s = c.deref-id-items.result.now in
    ap (λ ps. map (members_of ps)) (going_done sent_at (diff_pairs (changes_view s)) s c.loop-id.id-index c.loop-id.fields
    (rising_records_sent s (subst AreRising (sym c.deref-id-items.ensures.value) (rising_records c.self.inside.entries.items c.self.invariant))) (omega arith) c.loop-id.invariant)
    ∙ ap (λ es. diff_data (changes_view es)) c.deref-id-items.ensures.value ∙ ap diff_data c.self.view_is
