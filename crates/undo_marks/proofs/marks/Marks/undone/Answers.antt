use Rattle.std.proofs.Common.{refl}
use Rattle.undo_marks.proofs.KeptLemmas.{unwinding_next, unwound}
use Rattle.undo_marks.proofs.marks.Marks.undone.Goals as goal

pub marks-preserved : goal.marks-preserved
marks-preserved c =
    unwinding_next c.args.self.now c.marks.self (record c.marks.self { marked = c.pop.new.self; last = c.in-Some.marked.before }) c.marks.names c.push_reserved.new.self c.in-Some.marked c.marks.invariant
    (c.is_empty.ensures.0 c.marks-test.true) c.in-Some.ensures.items refl refl refl c.push_reserved.ensures.items c.push_reserved.ensures.len c.push_reserved.ensures.capacity

pub returns-clause-stands : goal.returns-clause-stands
returns-clause-stands c = λ marks h.
    unwound c.args.self.now c.marks.self (record c.marks.self { last = c.new.result; undone = c.push_reserved-2.new.self }) c.marks.names c.args.inverse (record { diff = c.args.inverse; names = c.marks.names }) marks
    c.marks.invariant (λ none. let is = c.is_empty.ensures.1 none in absurd (cc)) refl c.new.ensures.empty refl refl c.push_reserved-2.ensures.items h

pub returns-clause-begun : goal.returns-clause-begun
returns-clause-begun c = c.marks.invariant.begun
