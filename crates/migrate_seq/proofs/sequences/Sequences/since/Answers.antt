use Rattle.std.proofs.Common.{subst, sym, ap, ◌∙◌}
use Rattle.migrate_seq.specs.Plans.{IsPlan, is_acyclic, follows}
use Rattle.migrate_seq.specs.Order.{in_order}
use Rattle.migrate_seq.specs.Shown.{places_in}
use Rattle.migrate_seq.proofs.PlanLemmas.{plan_holds, one_plan}
use Rattle.migrate_seq.proofs.sequences.Sequences.since.Goals as goal

pub returns-clause-order : goal.returns-clause-order
returns-clause-order c =
    let seqs = c.as_slice-sequences.result.now in
    let is = c.new.ensures.places ∙ c.in_ok-order.ensures.taken ∙ ap (in_order (follows seqs)) c.in_ok-missing.ensures in
    let holds = subst (λ l. IsPlan seqs c.args.held.now l) (sym is) (plan_holds seqs c.args.held.now (ap is_acyclic c.as_slice-sequences.ensures.value ∙ c.args.self.now.acyclic)) in
    subst (λ s. IsPlan s c.args.held.now (places_in c.new.result)) c.as_slice-sequences.ensures.value holds

pub returns-clause-only : goal.returns-clause-only
returns-clause-only c other plan = one_plan c.args.self.now.sequences.items c.args.held.now (places_in c.new.result) other (returns-clause-order c) plan
