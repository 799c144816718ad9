use Rattle.field_ops.specs.ViewRecordOps.{change_of}
use Rattle.undo_marks.proofs.JoinLemmas.{plain_then}
use Rattle.undo_marks.proofs.join.join_at.Goals as goal

pub returns-in-Some-clause-plain : goal.returns-in-Some-clause-plain
returns-in-Some-clause-plain c =
    plain_then c.then.result (change_of c.args.newer.now) (change_of c.in-Some.older.now) c.requires.newer_plain (c.requires.older_plain c.in-Some.older c.in-Some.is) c.then.ensures
