use Rattle.std.proofs.Common.{sym, ◌∙◌, refl}
use Rattle.join_job.proofs.TurnLemmas.{passes_by, first_taken, later_taken}
use Rattle.join_job.proofs.script.Script.take_line.Goals as goal

pub returns-then-is_passed_by-clause-comes : goal.returns-then-is_passed_by-clause-comes
returns-then-is_passed_by-clause-comes g c =
    passes_by c.args.at c.args.self.now.room c.args.line.now c.args.self.now.joiner c.nothing.result (g.K.Link.told c.args.link.now) (sym c.is_passed_by.ensures ∙ c.if-is_passed_by.true) c.nothing.ensures.text c.nothing.ensures.end

pub returns-in-None-clause-comes : goal.returns-in-None-clause-comes
returns-in-None-clause-comes g c =
    let told = g.K.Link.told in
    first_taken c.args.at c.args.self.now.room c.args.line.now c.args.self.now.joiner c.take_header.result c.take_header.new.self.joiner (told c.args.link.now) (told c.take_header.new.link)
    (sym c.is_passed_by.ensures ∙ c.if-is_passed_by.false) c.in-None.is c.take_header.ensures.comes

pub returns-in-Some-clause-comes : goal.returns-in-Some-clause-comes
returns-in-Some-clause-comes g c =
    let told = g.K.Link.told in
    later_taken c.args.at c.args.self.now.room c.args.line.now c.args.self.now.joiner c.in-Some.joiner c.take_step.new.joiner c.take_step.result _ (told c.args.link.now) (told c.take_step.new.link)
    (sym c.is_passed_by.ensures ∙ c.if-is_passed_by.false) c.in-Some.is refl c.take_step.ensures.comes
