use Rattle.std.proofs.Common.{Some, None, option_map, ◌≡◌, ap, ◌∙◌}
use Rattle.std.specs.Prelude.{IfSome, IsTrue}
use Rattle.std.specs.List.{list_all}
use Rattle.migrate_steps.specs.Steps.{can_scale}
use Rattle.migrate_seq.specs.Plans.{migration_at, can_all_scale}
use Rattle.migrate_seq.proofs.PlanLemmas.{scales_at}
use Rattle.migrate_seq.proofs.sequences.Sequences.at.Goals as goal

pub returns-clause-scales : goal.returns-clause-scales
returns-clause-scales c =
    elim c.at.result as (λ o. option_map (λ m. m.now) o ≡ migration_at c.deref.result.now c.args.place → IfSome o (λ m. IsTrue (list_all can_scale m.now.steps.items))) [
      | None ↦ λ _. tt
      | Some m ↦ λ is. scales_at c.deref.result.now c.args.place m.now (ap can_all_scale c.deref.ensures.value ∙ c.args.self.now.scaled) is
    ] c.at.ensures
