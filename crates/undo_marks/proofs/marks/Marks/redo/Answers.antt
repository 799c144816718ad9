use Rattle.std.proofs.Common.{refl, sym, ◌∙◌, arith}
use Rattle.undo_marks.specs.declared.marks.Begun.TheVariants as begun
use Rattle.undo_marks.proofs.JoinLemmas.{on_err}
use Rattle.undo_marks.proofs.KeptLemmas.{stays, keeps}
use Rattle.undo_marks.proofs.marks.Marks.redo.Goals as goal

pub returns-in_err-reserve-clause-keeps : goal.returns-in_err-reserve-clause-keeps
returns-in_err-reserve-clause-keeps c =
    on_err _ c.from_residual-in_err-reserve.result (keeps c.args.self.now (record c.args.self.now { marked = c.reserve.new.self }) (record {
      begun = refl;
      settles = λ is. is;
      merges = refl;
      marked = c.reserve.ensures.items;
      marked_len = c.reserve.ensures.len;
      marked_room = c.reserve.ensures.capacity;
      undone = refl;
      undone_len = refl;
      undone_room = omega arith;
    }))

pub returns-in_err-settle-clause-stands : goal.returns-in_err-settle-clause-stands
returns-in_err-settle-clause-stands c = stays c.args.self.now (record c.args.self.now { marked = c.reserve.new.self; last = c.settle.new.self }) c.reserve.ensures.items c.settle.ensures.same refl

pub returns-in_err-settle-clause-keeps : goal.returns-in_err-settle-clause-keeps
returns-in_err-settle-clause-keeps c =
    on_err _ c.from_residual-in_err-settle.result (keeps c.args.self.now (record c.args.self.now { marked = c.reserve.new.self; last = c.settle.new.self }) (record {
      begun = refl;
      settles = c.settle.ensures.stays;
      merges = c.settle.ensures.same;
      marked = c.reserve.ensures.items;
      marked_len = c.reserve.ensures.len;
      marked_room = c.reserve.ensures.capacity;
      undone = refl;
      undone_len = refl;
      undone_room = omega arith;
    }))

pub returns-clause-stands : goal.returns-clause-stands
returns-clause-stands c = stays c.args.self.now (record c.args.self.now { marked = c.reserve.new.self; last = c.settle.new.self; begun = begun.Redo }) c.reserve.ensures.items c.settle.ensures.same refl

pub returns-clause-begun : goal.returns-clause-begun
returns-clause-begun c =
    let room = c.in_ok-reserve.ensures.ok in
    let names = c.len.ensures in
    record {
      is = refl;
      settled = c.in_ok-settle.ensures.settled;
      older = c.in-Some.field-0-1.now;
      newest = c.in-Some.newest.now;
      there = sym c.deref.ensures.value ∙ c.in-Some.ensures.cases.0;
      for_marks = omega (arith, room, names);
    }
