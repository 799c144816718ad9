use Rattle.std.proofs.Common.{arith}
use Rattle.std.proofs.lemmas.Int.{ints}
use Rattle.room_history.proofs.UsableLemmas.{clock_low, clock_high}
use Rattle.room_history.proofs.history.RoomHistory.clock.Goals as goal

pub returns-clause-low : goal.returns-clause-low
returns-clause-low c =
    let low = clock_low c.args.self.now.kept c.args.self.now.sound in
    let high = clock_high c.args.self.now.kept c.args.self.now.sound in
    omega (arith, ints)

pub returns-clause-high : goal.returns-clause-high
returns-clause-high c =
    let low = clock_low c.args.self.now.kept c.args.self.now.sound in
    let high = clock_high c.args.self.now.kept c.args.self.now.sound in
    omega (arith, ints)
