use Rattle.std.proofs.Common.{reverse, refl, ap, ◌∙◌, arith}
use Rattle.undo_marks.specs.Kept.{diffs_of}
use Rattle.undo_marks.specs.declared.marks.Begun.TheVariants as begun
use Rattle.undo_marks.proofs.KeptLemmas.{rewinding_next, rewound}
use Rattle.rooms_val.proofs.Truths.{no_items}
use Rattle.undo_marks.proofs.marks.Marks.redone.Goals as goal

pub marks-preserved : goal.marks-preserved
marks-preserved c =
    rewinding_next (record c.args.self.now { last = c.add.new.self; undone = c.pop.new.self }) c.marks.self (record c.marks.self { marked = c.push_reserved.new.self; last = c.replace-before.new.dest }) c.marks.names c.pop-in-marks.new.self (reverse c.in-Some.field-0.names.items) (record { before = c.replace-before.result; name = c.in-Some-pop.name })
    c.marks.invariant c.in-Some-pop.ensures.items c.in-Some-pop.ensures.len c.replace-before.ensures.value c.push_reserved.ensures.items c.push_reserved.ensures.len c.push_reserved.ensures.capacity
    (ap (λ s. diffs_of s) c.replace-before.ensures.after ∙ c.new.ensures.empty) refl

pub returns-clause-stands : goal.returns-clause-stands
returns-clause-stands c = λ marks h.
    let old = c.args.self.now in
    let none = c.in_default-pop.ensures.cases.0 in
    let count = c.marks.names.ok.0 in
    rewound old (record old { last = c.add.new.self; undone = c.pop.new.self }) c.marks.self c.marks.names (reverse c.in-Some.field-0.names.items) c.args.inverse c.in-Some.field-0 marks c.marks.invariant
    (no_items c.marks.names.items (omega (arith, none, count))) refl refl c.add.ensures.added c.add.ensures.inverses (c.add.ensures.sound, c.requires.plain) c.in-Some.ensures.items
    (record c.marks.self { begun = begun.Nothing }) refl refl refl h
