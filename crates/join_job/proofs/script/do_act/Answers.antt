use Rattle.std.proofs.Common.{refl, subst, inl}
use Rattle.std.proofs.lemmas.Result.{err_from_is_err_and}
use Rattle.room_join.specs.Joiners.{acts}
use Rattle.room_join.specs.Standing.{Answers}
use Rattle.join_job.proofs.TurnLemmas.{cut_off, acted, not_acted}
use Rattle.join_job.proofs.script.do_act.Goals as goal

pub returns-in_err-answer-clause-comes : goal.returns-in_err-answer-clause-comes
returns-in_err-answer-clause-comes g c =
    let p = err_from_is_err_and c.from_residual.result c.from_residual.ensures.1 in
    rw p.1 (cut_off _ (g.K.Link.told c.args.link.now) (λ x schemas client stands. inl refl))

pub returns-in-Ok-clause-comes : goal.returns-in-Ok-clause-comes
returns-in-Ok-clause-comes g c =
    let told = g.K.Link.told in
    acted c.args.at c.args.act c.args.joiner.now c.act.new.self c.follow.new.joiner c.in-Ok.lines c.follow.result (told c.args.link.now) (told c.follow.new.link)
    (λ schemas client stands. subst (λ r. Answers schemas (acts schemas c.args.act client) r c.act.new.self) c.in-Ok.is (c.in_ok-answer.ensures schemas client stands)) c.follow.ensures.comes

pub returns-in_err-fault_reply-in-Err-clause-comes : goal.returns-in_err-fault_reply-in-Err-clause-comes
returns-in_err-fault_reply-in-Err-clause-comes g c =
    let p = err_from_is_err_and c.from_residual-in_err-fault_reply-in-Err.result c.from_residual-in_err-fault_reply-in-Err.ensures.1 in
    rw p.1 (cut_off _ (g.K.Link.told c.args.link.now) (λ x schemas client stands. inl refl))

pub returns-in_ok-fault_reply-in-Err-clause-comes : goal.returns-in_ok-fault_reply-in-Err-clause-comes
returns-in_ok-fault_reply-in-Err-clause-comes g c =
    not_acted c.args.at c.args.act c.args.joiner.now c.act.new.self c.act.new.self c.in-Err.text c.in_ok-fault_reply-in-Err.field-0 (g.K.Link.told c.args.link.now)
    (λ schemas client stands. subst (λ r. Answers schemas (acts schemas c.args.act client) r c.act.new.self) c.in-Err.is (c.in_ok-answer.ensures schemas client stands))
    c.in_ok-fault_reply-in-Err.ensures.text c.in_ok-fault_reply-in-Err.ensures.end
