use Rattle.std.proofs.Common.{◌-◌, ◌+◌, length, rules, arith, sym, ◌∙◌}
use Rattle.side_effects.specs.Records.{has}
use Rattle.clip_content.proofs.CopyLemmas.{walk_here, walk_end, walk_up, walk_done}
use Rattle.clip_content.proofs.copying.leads_to.Goals as goal

pub returns-then-has : goal.returns-then-has
returns-then-has c =
    walk_here c.args.records.now (has c.args.named.now) (length c.args.records.now - c.parents._step) c.parents.at.now _ c.parents.invariant.1 (sym c.has.ensures ∙ c.if-has.true)

pub returns-in-None : goal.returns-in-None
returns-in-None c =
    walk_end c.args.records.now (has c.args.named.now) (length c.args.records.now - c.parents._step) c.parents.at.now _ c.parents.invariant.1 (sym c.has.ensures ∙ c.if-has.false) (sym c.in-None.ensures)

pub parents-preserved : goal.parents-preserved
parents-preserved c = (
  search rules,
  walk_up c.args.records.now (has c.args.named.now) (length c.args.records.now - c.parents._step) (length c.args.records.now - (c.parents._step + 1)) c.parents.at.now c.in-Some.parent.now _ (omega arith) c.parents.invariant.1 (sym c.has.ensures ∙ c.if-has.false) (sym c.in-Some.ensures),
)

pub returns : goal.returns
returns c =
    c.has-2.ensures ∙ walk_done c.args.records.now (has c.args.named.now) (length c.args.records.now - c.parents._step) c.parents.at.now _ (omega arith) c.parents.invariant.1
