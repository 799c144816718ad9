use Rattle.std.proofs.Common.{refl, arith}
use Rattle.undo_marks.proofs.JoinLemmas.{on_err}
use Rattle.undo_marks.proofs.KeptLemmas.{keeps}
use Rattle.undo_marks.proofs.marks.Marks.mark.Goals as goal

pub returns-in_err-reserve-clause-keeps : goal.returns-in_err-reserve-clause-keeps
returns-in_err-reserve-clause-keeps c =
    let room = c.reserve.ensures.capacity in
    on_err _ c.from_residual.result (keeps c.args.self.now (record c.args.self.now { marked = c.reserve.new.self }) (record {
      begun = refl;
      settles = λ is. is;
      merges = refl;
      marked = c.reserve.ensures.items;
      marked_len = c.reserve.ensures.len;
      marked_room = room;
      undone = refl;
      undone_len = refl;
      undone_room = omega arith;
    }))
