use Rattle.std.proofs.Common.{◌≡◌, take}
use Rattle.tl_rules.specs.Walks.{ids_view}
use Rattle.tl_rules.proofs.tree.copies_of.Given as goal

abbrev pub invariant-ids : goal.invariant-ids
invariant-ids l = l.copies.items ≡ ids_view (take l.id-index l.ids)
