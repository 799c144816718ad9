use Rattle.std.proofs.Common.{refl, ◌∙◌}
use Rattle.room_model.specs.declared.fault.StepFault.TheVariants as step_fault
use Rattle.shared_board.proofs.StepLemmas.{many_clients, join_full}
use Rattle.shared_board.proofs.board.Board.join.Goals as goal

pub happen-requires-clause-played : goal.happen-requires-clause-played
happen-requires-clause-played c = c.is_version.ensures.0 c.if-not-is_version.false

pub returns-in-Ok-clause-step : goal.returns-in-Ok-clause-step
returns-in-Ok-clause-step c = λ known schemas state stands.
    let done = c.in-Ok.ensures schemas state stands in
    (done.0, done.1, c.in-Some.ensures.found ∙ many_clients schemas state c.args.self.now stands, done.3)

pub returns-in-Some-clause-step : goal.returns-in-Some-clause-step
returns-in-Some-clause-step c = λ known schemas state stands. c.in-Err.ensures schemas state stands

pub returns-clause-step : goal.returns-clause-step
returns-clause-step c = λ known schemas state stands other.
    ((step_fault.Limit, join_full schemas state c.args.self.now stands c.args.version c.in-None.ensures.none, refl), stands)

pub returns-then-not-is_version-clause-step : goal.returns-then-not-is_version-clause-step
returns-then-not-is_version-clause-step c = λ known. absurd (let yes = c.is_version.ensures.1 known in let not = c.if-not-is_version.true in cc)

pub returns-in-Ok-clause-unknown : goal.returns-in-Ok-clause-unknown
returns-in-Ok-clause-unknown c = λ no. absurd (no (c.is_version.ensures.0 c.if-not-is_version.false))

pub returns-in-Some-clause-unknown : goal.returns-in-Some-clause-unknown
returns-in-Some-clause-unknown c = λ no. absurd (no (c.is_version.ensures.0 c.if-not-is_version.false))

pub returns-clause-unknown : goal.returns-clause-unknown
returns-clause-unknown c = λ no. absurd (no (c.is_version.ensures.0 c.if-not-is_version.false))
