use Rattle.shared_board.specs.Texts.{diff_of_text}
use Rattle.shared_board.proofs.TextLemmas.{edits, unread}
use Rattle.shared_board.proofs.board.Board.edit.Goals as goal

pub returns-in-Ok : goal.returns-in-Ok
returns-in-Ok c = λ schemas state stands.
    edits schemas state c.args.client.number c.change.new.self (diff_of_text c.args.text.now) c.in-Ok.diff c.change.result c.in-Ok.ensures (c.change.ensures schemas state stands)

pub returns-in-Err : goal.returns-in-Err
returns-in-Err c = λ schemas state stands.
    unread schemas state c.args.client.number c.args.self.now (diff_of_text c.args.text.now) c.in-Err.fault c.in-Err.ensures stands
