use Rattle.std.proofs.Common.{refl}
use Rattle.undo_marks.specs.declared.marks.Begun.TheVariants as begun
use Rattle.undo_marks.proofs.KeptLemmas.{recorded}
use Rattle.undo_marks.proofs.marks.Marks.record.Goals as goal

pub returns-clause-stands : goal.returns-clause-stands
returns-clause-stands c = λ marks h.
    recorded c.args.self.now (record c.args.self.now { last = c.add.new.self; undone = c.clear.new.self; begun = begun.Nothing }) c.args.inverse marks refl c.add.ensures.added c.add.ensures.inverses
    (c.add.ensures.sound, c.requires.plain) c.clear.ensures.items h
