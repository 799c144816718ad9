-- Whether as many entries lie above a sent clock that a catch-up tells them.
use Rattle.std.proofs.Common.{◌≡◌, ℕ, ◌-◌, ◌≤◌, ◌<◌, nat_le, ℤ, pos, ◌-ℤ◌, Bool, true, false, min, arith}
use Rattle.std.specs.Prelude.{int_lt}
use Rattle.std.proofs.lemmas.Bool.Decides.{nat_tests}
use Rattle.std.proofs.lemmas.Int.{ints}
use Rattle.room_model.specs.declared.limits.TheConstants.{MOST_TOLD}

-- the sent clock isn't below the clock less 32
pub few : (clock sent : ℤ) (entries told : ℕ) → clock ≡ pos entries → sent ≡ pos told → int_lt sent (clock -ℤ pos 32) ≡ false → entries - MOST_TOLD ≤ told
few clock sent entries told at is test = grind (arith, ints)

pub told_each : (entries told : ℕ) → entries - MOST_TOLD ≤ told → nat_le (entries - told) MOST_TOLD ≡ true
told_each entries told near = grind (arith, nat_tests)
