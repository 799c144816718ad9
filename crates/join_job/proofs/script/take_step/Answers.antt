use Rattle.std.proofs.Common.{refl, subst, inl}
use Rattle.std.proofs.lemmas.Result.{err_from_is_err_and}
use Rattle.join_job.specs.Turning.{IsRead}
use Rattle.join_job.proofs.TurnLemmas.{cut_off, taken, not_taken}
use Rattle.join_job.proofs.script.take_step.Goals as goal

pub returns-in_err-found-clause-comes : goal.returns-in_err-found-clause-comes
returns-in_err-found-clause-comes g c =
    let p = err_from_is_err_and c.from_residual.result c.from_residual.ensures.1 in
    rw p.1 (cut_off _ (g.K.Link.told c.args.link.now) (λ x schemas client stands. inl refl))

pub returns-in-Ok-clause-comes : goal.returns-in-Ok-clause-comes
returns-in-Ok-clause-comes g c =
    let told = g.K.Link.told in
    taken c.args.at c.args.line.now c.in-Ok.step c.args.joiner.now c.do_step.new.joiner c.do_step.result (told c.args.link.now) (told c.do_step.new.link)
    (subst (IsRead c.args.line.now) c.in-Ok.is c.in_ok-found.ensures) c.do_step.ensures.comes

pub returns-in_ok-fault_reply-in-Err-clause-comes : goal.returns-in_ok-fault_reply-in-Err-clause-comes
returns-in_ok-fault_reply-in-Err-clause-comes g c =
    not_taken c.args.at c.args.line.now c.in-Err.text c.args.joiner.now c.args.joiner.now c.in_ok-fault_reply-in-Err.field-0 (g.K.Link.told c.args.link.now)
    (subst (IsRead c.args.line.now) c.in-Err.is c.in_ok-found.ensures) c.in_ok-fault_reply-in-Err.ensures.text c.in_ok-fault_reply-in-Err.ensures.end
