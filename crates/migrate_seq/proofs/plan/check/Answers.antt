use Rattle.std.proofs.Common.{◌∙◌, sym, ap, drop, add-one}
use Rattle.migrate_seq.specs.Order.{first_some}
use Rattle.migrate_seq.specs.Plans.{version_fault, refusal}
use Rattle.migrate_seq.proofs.PlanLemmas.{passed, refused}
use Rattle.migrate_seq.proofs.plan.check.Goals as goal

pub returns-in-Err : goal.returns-in-Err
returns-in-Err c other =
    ap refusal c.loop-place.invariant
    ∙ refused (version_fault c.args.sequences.now) c.args.held.now c.loop-place.place _ c.in-Some.ensures _ (c.in-Err.ensures other)

pub loop-place-preserved : goal.loop-place-preserved
loop-place-preserved c =
    c.loop-place.invariant
    ∙ passed (version_fault c.args.sequences.now) c.args.held.now c.loop-place.place _ c.in-Some.ensures c.in_default-check_version.ensures
    ∙ ap (λ i. first_some (version_fault c.args.sequences.now) (drop i c.args.held.now)) (sym (add-one c.loop-place.place))
