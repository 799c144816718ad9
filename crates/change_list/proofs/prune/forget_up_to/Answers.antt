use Rattle.std.proofs.Common.{rules}
use Rattle.std.proofs.lemmas.Fn.{filter_same}
use Rattle.change_list.specs.Kept.{stays_at}
use Rattle.change_list.proofs.prune.forget_up_to.Goals as goal

pub returns-clause-items : goal.returns-clause-items
returns-clause-items c =
    filter_same _ (stays_at c.args.entries.now c.args.clock) _ (λ x b f called. (search rules, search rules)) _ _ c.retain.ensures.filtered
