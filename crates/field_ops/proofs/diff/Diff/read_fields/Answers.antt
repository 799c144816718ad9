use Rattle.std.proofs.Common.{[], ◌+◌, Some, drop, refl, sym, ap, subst, ◌∙◌, arith}
use Rattle.rooms_val.specs.Data.{map, members_of, IsSound}
use Rattle.rooms_val.specs.View.{data_of, pairs_view}
use Rattle.rooms_val.specs.Maps.{with_key}
use Rattle.field_ops.specs.ViewRecordOps.{change_of}
use Rattle.field_ops.specs.WireRecordOps.{change_data, diff_pairs}
use Rattle.rooms_val.proofs.MapsLemmas.{seen-with_key}
use Rattle.field_ops.proofs.WireLemmas.{read_at, reads, no_record}
use Rattle.rooms_val.proofs.DataLemmas.{rising_pairs}
use Rattle.field_ops.proofs.SoundLemmas.{rising_fields_slice}
use Rattle.field_ops.proofs.WalkLemmas.{Going, going_first, going_next, going_done}
use Rattle.field_ops.proofs.diff.Diff.read_fields.Goals as goal

pub loop-id-init : goal.loop-id-init
loop-id-init c =
    let s = c.as_slice-id-items.result.now in
    let start = going_first read_at (pairs_view s) s (λ q. refl) (reads s) (rising_fields_slice s _ c.as_slice-id-items.ensures.pairs c.as_slice-id-items.ensures.sound) in
    subst (λ r. Going read_at (pairs_view s) [] s (diff_pairs r)) (sym c.new-diff.ensures) start

pub returns-in_err-read-clause-only : goal.returns-in_err-read-clause-only
returns-in_err-read-clause-only c wrong cs sound is =
    no_record c.as_slice-id-items.result.now c.loop-id.id-index c.loop-id-item.result c.loop-id-test.true c.loop-id-item.is
    (c.in_err-read.ensures.only (let from = rw wrong at c.from_residual-in_err-read.ensures.1 in cc)) cs sound.1 (c.as_slice-id-items.ensures.pairs ∙ is)

pub loop-id-preserved : goal.loop-id-preserved
loop-id-preserved c =
    let s = c.as_slice-id-items.result.now in
    let x = c.loop-id-item.result in
    let next = going_next read_at (pairs_view s) s c.loop-id.id-index x (diff_pairs c.loop-id.diff) (Some (data_of x.1)) (λ q. refl) c.loop-id-test.true c.loop-id-item.is refl c.loop-id.invariant in
    let made = ap diff_pairs c.in_ok-put.ensures.ok ∙ seen-with_key change_data c.loop-id.diff c.in_ok-copy.field-0 (change_of c.in_ok-read.field-0)
    ∙ (λ i. with_key (diff_pairs c.loop-id.diff) (c.in_ok-copy.ensures i) (sym c.in_ok-read.ensures.found i)) in
    subst (λ r. Going read_at (pairs_view s) [] (drop (c.loop-id.id-index + 1) s) r) (sym made) next

pub returns-clause-found : goal.returns-clause-found
returns-clause-found c =
    let s = c.as_slice-id-items.result.now in
    sym (going_done read_at (pairs_view s) s c.loop-id.id-index (diff_pairs c.loop-id.diff) (rising_pairs (pairs_view s) (subst (λ f. IsSound (map (members_of f))) (sym c.as_slice-id-items.ensures.pairs) c.as_slice-id-items.ensures.sound)) (omega arith) c.loop-id.invariant
    ∙ c.as_slice-id-items.ensures.pairs)
