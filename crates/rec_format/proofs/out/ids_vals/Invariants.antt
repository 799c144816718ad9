use Rattle.std.proofs.Common.{◌≡◌, map, take}
use Rattle.rooms_val.specs.Data.{text}
use Rattle.rec_format.proofs.out.ids_vals.Given as goal

-- the values so far are those of the ids so far
abbrev pub invariant-ids : goal.invariant-ids
invariant-ids l = l.vals ≡ map text (take l.id-index l.ids)
