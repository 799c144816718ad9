use Rattle.std.proofs.Common.{◌+◌, sym, subst, arith}
use Rattle.shared_board.specs.Moving.{IsMoving}
use Rattle.shared_board.specs.Rounds.{Attempts, Tries}
use Rattle.shared_board.proofs.MoveLemmas.{move_moves, tries_none, tries_more, tries_all}
use Rattle.shared_board.proofs.board.Board.try_each.Goals as goal

pub numbers-init : goal.numbers-init
numbers-init c = λ schemas state stands. tries_none schemas state c.args.leg c.args.self.now stands

pub attempt-requires : goal.attempt-requires
attempt-requires c = subst IsMoving (sym c.move_of.ensures) (move_moves c.args.leg c.numbers.number)

pub numbers-preserved : goal.numbers-preserved
numbers-preserved c = λ schemas state stands.
    subst (λ b. Tries schemas state c.args.leg (c.numbers.number + 1) b c.attempt.new.self) (sym c.either-moved.ensures)
    (tries_more schemas state c.args.leg c.numbers.number c.numbers.moved c.in_ok-happened.happened c.numbers.self c.attempt.new.self (c.numbers.invariant schemas state stands)
    (λ at is. subst (λ e. Attempts schemas at e c.in_ok-happened.happened c.attempt.new.self) c.move_of.ensures (c.in_ok-happened.ensures schemas at is)))

pub returns : goal.returns
returns c = λ schemas state stands.
    tries_all schemas state c.args.leg c.numbers.number c.args.count c.numbers.moved c.numbers.self (omega (arith, c.numbers-test.false)) (c.numbers.invariant schemas state stands)
