use Rattle.std.proofs.Common.{refl, subst}
use Rattle.shared_board.specs.Moving.{stays}
use Rattle.shared_board.specs.Rounds.{Passes}
use Rattle.shared_board.proofs.MoveLemmas.{reaches_on, settles, shares}
use Rattle.shared_board.proofs.board.Board.settle.Goals as goal

pub passes-init : goal.passes-init
passes-init c = λ schemas state stands. (state, stays, stands)

pub passes-preserved : goal.passes-preserved
passes-preserved c = λ schemas state stands.
    reaches_on schemas state c.passes.self c.pass.new.self (c.passes.invariant schemas state stands)
    (λ at is. subst (λ b. Passes schemas at b c.pass.new.self) c.if-not-moved.false (c.in-Ok.ensures schemas at is))

pub returns-then-not-moved-clause-settles : goal.returns-then-not-moved-clause-settles
returns-then-not-moved-clause-settles c = λ schemas state stands.
    settles schemas state c.passes.self c.pass.new.self (c.passes.invariant schemas state stands)
    (λ at is. subst (λ b. Passes schemas at b c.pass.new.self) c.if-not-moved.true (c.in-Ok.ensures schemas at is))

pub returns-then-not-moved-clause-shared : goal.returns-then-not-moved-clause-shared
returns-then-not-moved-clause-shared c = λ schemas state stands.
    shares schemas state c.pass.new.self (returns-then-not-moved-clause-settles c schemas state stands)

pub returns-clause-settles : goal.returns-clause-settles
returns-clause-settles c = λ schemas state stands other. (refl, c.passes.invariant schemas state stands)

pub returns-in-Err-clause-settles : goal.returns-in-Err-clause-settles
returns-in-Err-clause-settles c = λ schemas state stands other. absurd (other refl)
