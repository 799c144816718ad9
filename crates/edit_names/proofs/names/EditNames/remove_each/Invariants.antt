use Rattle.std.proofs.Common.{◌≡◌, ◌-◌, ℕ, List, take}
use Rattle.rooms_val.specs.Maps.{AreRising}
use Rattle.edit_names.specs.Names.{count_at, once}
use Rattle.edit_names.proofs.names.EditNames.remove_each.Given as goal

abbrev pub invariant-ids : goal.invariant-ids
invariant-ids l = AreRising l.ids → (q : List ℕ) → count_at l.self q ≡ count_at l.initial.self q - once (take l.id-index l.ids) q
