use Rattle.std.proofs.Common.{◌≡◌, ◌-◌, length, take, refl, sym, ap, ◌∙◌, arith}
use Rattle.undo_marks.specs.declared.marks.Begun.TheVariants as begun
use Rattle.undo_marks.proofs.KeptLemmas.{mark_within, bailed}
use Rattle.undo_marks.proofs.marks.Marks.bailed.Goals as goal

pub overflow_sub-len : goal.overflow_sub-len
overflow_sub-len c =
    let one = c.requires.1 in
    let same : one.newer ≡ c.in-Bail.newer = cc (one.is, c.in-Bail.is) in
    let in_ = mark_within one.newer c.requires.0 c.args.self.now.marked.items one.there in
    let len = c.len.ensures in
    let count = c.args.self.now.marked.ok.0 in
    omega (arith, same, in_, len, count)

pub returns-clause-stands : goal.returns-clause-stands
returns-clause-stands c = λ name marks is h.
    let old = c.args.self.now in
    let same : is.newer ≡ c.in-Bail.newer = cc (is.is, c.in-Bail.is) in
    let len = c.len.ensures in
    let count = old.marked.ok.0 in
    let place : length old.marked.items - is.newer ≡ c.len.result - c.in-Bail.newer = omega (arith, same, len, count) in
    bailed old (record { marked = c.pop.new.self; last = c.in-Some.marked.before; undone = c.clear.new.self; begun = begun.Nothing }) is.newer name c.in-Some.marked marks is.there
    (ap (λ k. take k old.marked.items) place ∙ sym c.truncate.ensures.items ∙ c.in-Some.ensures.items) refl c.clear.ensures.items h

pub unreachable-requires-in_default-pop : goal.unreachable-requires-in_default-pop
unreachable-requires-in_default-pop c =
    let one = c.requires.1 in
    let same : one.newer ≡ c.in-Bail.newer = cc (one.is, c.in-Bail.is) in
    let in_ = mark_within one.newer c.requires.0 c.args.self.now.marked.items one.there in
    let len = c.len.ensures in
    let count = c.args.self.now.marked.ok.0 in
    let none = c.in_default-pop.ensures.cases.0 in
    let cut = c.truncate.ensures.len in
    omega (arith, same, in_, len, count, none, cut)
