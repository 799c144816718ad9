use Rattle.std.proofs.Common.{◌≡◌, ◌++◌, take}
use Rattle.tl_rules.proofs.edits.add_copies.Given as goal

abbrev pub invariant-ids : goal.invariant-ids
invariant-ids l = l.items.items ≡ l.initial.items.items ++ take l.id-index l.ids
