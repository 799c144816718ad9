use Rattle.std.proofs.Common.{◌≡◌, ◌++◌, take}
use Rattle.tl_rules.proofs.bound.add_all.Given as goal

abbrev pub invariant-ids : goal.invariant-ids
invariant-ids l = l.ids.items ≡ l.initial.ids.items ++ take l.id-index l.more
