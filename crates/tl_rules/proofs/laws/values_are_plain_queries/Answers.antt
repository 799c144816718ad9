use Rattle.tl_rules.proofs.QueryLemmas.{bound_value, tree_value, count_value, box_value}
use Rattle.tl_rules.proofs.laws.values_are_plain_queries.Goals as goal

pub returns-clause-bound : goal.returns-clause-bound
returns-clause-bound c = λ atoms m id plain rising. bound_value atoms m plain rising id

pub returns-clause-tree : goal.returns-clause-tree
returns-clause-tree c = λ atoms m page plain. tree_value atoms m plain page

pub returns-clause-count : goal.returns-clause-count
returns-clause-count c = λ atoms m page plain. count_value atoms m plain page

pub returns-clause-boxes : goal.returns-clause-boxes
returns-clause-boxes c = λ atoms m id levels plain few. box_value atoms m plain levels few id
