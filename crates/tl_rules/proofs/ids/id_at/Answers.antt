use Rattle.std.proofs.Common.{◌+◌, ◌++◌, ◌∙◌, drop, length, ap, sym, arith, slice_get}
use Rattle.tl_rules.specs.Ids.{flat}
use Rattle.tl_rules.proofs.PartLemmas.{flat_off, found_in, found_after}
use Rattle.tl_rules.proofs.ids.id_at.Goals as goal

pub returns-then-left-ids : goal.returns-then-left-ids
returns-then-left-ids c =
    let parts = c.args.parts.now in
    let after = flat (drop (c.parts.part-index + 1) parts) in
    let part = c.as_slice-ids.result.now in
    let split = flat_off parts c.parts.part-index c.part-item.result c.parts-test.true c.part-item.is in
    found_in part after (flat parts) c.parts.left c.args.place
    (ap (λ l. slice_get l c.parts.left) (sym (split ∙ ap (λ l. l ++ after) (sym c.as_slice-ids.ensures))) ∙ c.parts.invariant)
    c.index-ids-left.result c.if-left-ids.true c.index-ids-left.is

pub parts-preserved : goal.parts-preserved
parts-preserved c =
    let parts = c.args.parts.now in
    let after = flat (drop (c.parts.part-index + 1) parts) in
    let part = c.part-item.result in
    let split = flat_off parts c.parts.part-index part c.parts-test.true c.part-item.is in
    ap (slice_get after) (omega (arith, ap length c.as_slice-ids.ensures))
    ∙ found_after part after (flat parts) c.parts.left c.args.place
    (ap (λ l. slice_get l c.parts.left) (sym split) ∙ c.parts.invariant)
    (omega (arith, ap length c.as_slice-ids.ensures, c.if-left-ids.false))
