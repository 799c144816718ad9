use Rattle.std.specs.Cmp.Lexicographic.{bytes_decides}
use Rattle.rooms_val.proofs.OrderLemmas.{same_vals, same_lists, same_maps}
use Rattle.rooms_val.proofs.order.equal_is_same.Goals as goal

pub returns-clause-values : goal.returns-clause-values
returns-clause-values c = same_vals

pub returns-clause-texts : goal.returns-clause-texts
returns-clause-texts c = bytes_decides

pub returns-clause-lists : goal.returns-clause-lists
returns-clause-lists c = same_lists

pub returns-clause-maps : goal.returns-clause-maps
returns-clause-maps c = same_maps
