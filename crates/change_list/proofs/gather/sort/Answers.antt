use Rattle.std.proofs.Common.{rules}
use Rattle.std.proofs.lemmas.Fn.{always_returns_same}
use Rattle.std.proofs.lemmas.Cmp.{nat_list_cmp_total}
use Rattle.std.proofs.lemmas.List.Sorted.{ranks_by}
use Rattle.change_list.specs.declared.entries.Change.{Change}
use Rattle.change_list.specs.Changes.{is_below}
use Rattle.change_list.proofs.gather.sort.Goals as goal

pub returns-clause-rising : goal.returns-clause-rising
returns-clause-rising c =
    c.in_ok-sort_by.ensures.sorted is_below (ranks_by nat_list_cmp_total (λ (change : Change). change.id)) (always_returns_same _ _ _ (λ a r f called. (search rules, search rules)))
