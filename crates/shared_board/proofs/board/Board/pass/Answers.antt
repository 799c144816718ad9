use Rattle.std.proofs.Common.{◌||◌, ◌∙◌, sym, ap, subst}
use Rattle.shared_board.specs.Rounds.{Passes}
use Rattle.shared_board.proofs.MoveLemmas.{passes}
use Rattle.shared_board.proofs.board.Board.pass.Goals as goal

pub returns : goal.returns
returns c = λ schemas state stands.
    subst (λ b. Passes schemas state b c.try_each-3.new.self) (sym (c.either-2.ensures ∙ ap (λ b. b || c.in_ok-given.given) c.either.ensures))
    (passes schemas state c.in_ok-heard.heard c.in_ok-told.told c.in_ok-given.given c.args.self.now c.try_each.new.self c.try_each-2.new.self c.try_each-3.new.self stands
    (c.in_ok-heard.ensures schemas state stands) (c.in_ok-told.ensures schemas) (c.in_ok-given.ensures schemas))
