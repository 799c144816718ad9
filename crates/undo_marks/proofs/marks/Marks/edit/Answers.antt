use Rattle.std.proofs.Common.{refl, arith}
use Rattle.undo_marks.specs.declared.marks.Begun.TheVariants as begun
use Rattle.undo_marks.proofs.JoinLemmas.{on_err}
use Rattle.undo_marks.proofs.KeptLemmas.{stays, keeps}
use Rattle.undo_marks.proofs.marks.Marks.edit.Goals as goal

pub returns-in_err-settle-clause-stands : goal.returns-in_err-settle-clause-stands
returns-in_err-settle-clause-stands c = stays c.args.self.now (record c.args.self.now { last = c.settle.new.self }) refl c.settle.ensures.same refl

pub returns-in_err-settle-clause-keeps : goal.returns-in_err-settle-clause-keeps
returns-in_err-settle-clause-keeps c =
    on_err _ c.from_residual.result (keeps c.args.self.now (record c.args.self.now { last = c.settle.new.self }) (record {
      begun = refl;
      settles = c.settle.ensures.stays;
      merges = c.settle.ensures.same;
      marked = refl;
      marked_len = refl;
      marked_room = omega arith;
      undone = refl;
      undone_len = refl;
      undone_room = omega arith;
    }))

pub returns-clause-stands : goal.returns-clause-stands
returns-clause-stands c = stays c.args.self.now (record c.args.self.now { last = c.settle.new.self; begun = begun.Edit }) refl c.settle.ensures.same refl
