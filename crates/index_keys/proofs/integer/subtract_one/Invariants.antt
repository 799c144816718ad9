use Rattle.std.proofs.Common.{◌-◌}
use Rattle.index_keys.specs.Between.{is_least}
use Rattle.index_keys.proofs.CarryLemmas.{IsCarrying}
use Rattle.index_keys.proofs.integer.subtract_one.Given as goal

abbrev pub invariant-loop-i : goal.invariant-loop-i
invariant-loop-i l = IsCarrying is_least 61 (λ digit. digit - 1) l.initial.digits l.digits l.i
