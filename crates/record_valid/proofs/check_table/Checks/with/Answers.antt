use Rattle.std.proofs.Common.{sym, ap, subst, ◌∙◌}
use Rattle.rooms_val.specs.Maps.{AreRising, with_key}
use Rattle.rooms_val.proofs.MapsLemmas.{rising-with_key, seen-with_key}
use Rattle.record_valid.specs.View.{tree_of, table_view}
use Rattle.record_valid.proofs.check_table.Checks.with.Goals as goal

pub invariant_of-result : goal.invariant_of-result
invariant_of-result c =
    let es = c.self.inside.entries.items in
    let left = c.in_ok-put.ensures.ok ∙ (λ i. with_key es (c.in_ok-of.ensures i) c.args.check) in
    subst AreRising (sym left) (rising-with_key es c.args.text.now c.args.check c.self.invariant)

pub returns : goal.returns
returns c =
    ap table_view c.in_ok-put.ensures.ok ∙ seen-with_key tree_of c.self.inside.entries.items _ c.args.check
    ∙ (λ i. with_key (c.self.view_is i) (c.in_ok-of.ensures i) (tree_of c.args.check))
