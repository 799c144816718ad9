use Rattle.std.proofs.Common.{arith}
use Rattle.std.proofs.lemmas.Int.{ints, to_z-of_z}
use Rattle.bench_parts.proofs.TouchedLemmas.{up_to_touched}
use Rattle.bench_parts.proofs.touching.Clocked.touch.Goals as goal

pub invariant_of-self-2 : goal.invariant_of-self-2
invariant_of-self-2 c =
    record { latest = up_to_touched c.args.self.now.list c.touch.new.self _ c.args.self.now.clock _ c.args.self.now.latest (grind (arith, ints, to_z-of_z, c.saturating_add-clock.ensures)) c.in_ok-touch.ensures.live c.in_ok-touch.ensures.dead }
