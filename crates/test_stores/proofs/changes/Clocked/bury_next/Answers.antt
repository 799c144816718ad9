use Rattle.std.proofs.Common.{arith}
use Rattle.std.proofs.lemmas.Int.{ints, to_z-of_z}
use Rattle.test_stores.proofs.ClockLemmas.{up_to_touched, up_to_buried, listed_last}
use Rattle.test_stores.proofs.changes.Clocked.bury_next.Goals as goal

pub bury-requires-clause-live : goal.bury-requires-clause-live
bury-requires-clause-live c =
    listed_last c.touch.new.self.live _ _ c.as_str-2.result.now (grind (arith, c.in_ok-of.ensures, c.as_str.ensures.value, c.as_str-2.ensures.value)) c.in_ok-touch.ensures.live

pub bury-requires-clause-latest : goal.bury-requires-clause-latest
bury-requires-clause-latest c =
    up_to_touched c.args.self.now.list c.touch.new.self _ c.args.self.now.clock _ c.args.self.now.latest (grind (arith, ints, to_z-of_z, c.saturating_add-clock.ensures)) c.in_ok-touch.ensures.live c.in_ok-touch.ensures.dead

pub invariant_of-self-2 : goal.invariant_of-self-2
invariant_of-self-2 c =
    record { latest = up_to_buried c.touch.new.self c.bury.new.self _ _ (up_to_touched c.args.self.now.list c.touch.new.self _ c.args.self.now.clock _ c.args.self.now.latest (grind (arith, ints, to_z-of_z, c.saturating_add-clock.ensures)) c.in_ok-touch.ensures.live c.in_ok-touch.ensures.dead) c.bury.ensures.live c.bury.ensures.dead }
