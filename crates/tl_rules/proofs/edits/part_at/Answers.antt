use Rattle.std.proofs.Common.{◌∙◌, ◌+◌, ap, length, arith}
use Rattle.std.specs.Prelude.{take}
use Rattle.tl_rules.specs.Ids.{flat}
use Rattle.tl_rules.proofs.EditLemmas.{found_after}
use Rattle.tl_rules.proofs.edits.part_at.Goals as goal

pub parts-preserved : goal.parts-preserved
parts-preserved c =
    let len = ap length c.as_slice-len.ensures in
    ap (λ n. length (flat (take (c.parts.at + 1) c.args.parts.now)) + n) (omega (arith, len))
    ∙ found_after c.args.parts.now c.args.place c.args.wanted c.parts.at c.parts.offset c.requires.few c.requires.within c.parts.invariant
    c.index-parts-at.result c.parts-test.true c.index-parts-at.is (omega (arith, len, c.if-offset-len.false, c.requires.few))
