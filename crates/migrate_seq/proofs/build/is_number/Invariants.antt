use Rattle.std.proofs.Common.{◌≡◌, ◌+◌, ◌*◌, ◌-◌, fold, drop}
use Rattle.migrate_seq.specs.Builds.{number_of}
use Rattle.migrate_seq.proofs.build.is_number.Given as goal

-- the number of the digits so far goes on to that of all
abbrev pub invariant-loop-digit : goal.invariant-loop-digit
invariant-loop-digit l = number_of l.digits ≡ fold (λ n c. 10 * n + (c - 48)) l.value (drop l.digit-index l.digits)
