use Rattle.std.proofs.Common.{subst, Ok}
use Rattle.std.proofs.lemmas.Result.{err_from_is_err_and}
use Rattle.room_join.specs.Hearing.{Waited}
use Rattle.room_link.specs.Exchange.{Tells}
use Rattle.join_job.proofs.TurnLemmas.{delivered, not_delivered, wait_cut_off, waits_no_more}
use Rattle.join_job.proofs.script.deliver.Goals as goal

pub returns-in_err-delivery-clause-comes : goal.returns-in_err-delivery-clause-comes
returns-in_err-delivery-clause-comes g c =
    let p = err_from_is_err_and c.from_residual-in_err-delivery.result c.from_residual-in_err-delivery.ensures.1 in
    let told = g.K.Link.told in
    rw p.1 (wait_cut_off c.args.at c.args.joiner.now c.deliver.new.self c.deliver.new.self p.0 (told c.args.link.now) (told c.deliver.new.link) c.in_err-delivery.ensures.unsaid)

pub returns-in-Ok-clause-comes : goal.returns-in-Ok-clause-comes
returns-in-Ok-clause-comes g c =
    let told = g.K.Link.told in
    delivered c.args.at c.args.joiner.now c.deliver.new.self c.follow.new.joiner c.has_lost-is_lost.result c.in-Ok.lines c.follow.result (told c.args.link.now) (told c.deliver.new.link) (told c.follow.new.link)
    c.has_lost-is_lost.ensures c.if-is_lost.false (c.in_ok-delivery.ensures.unsaid, λ schemas client stands. subst (λ d. Tells (Waited schemas client (Ok d) c.deliver.new.self) (told c.args.link.now) (told c.deliver.new.link)) c.in-Ok.is (c.in_ok-delivery.ensures.waited schemas client stands)) c.follow.ensures.comes

pub returns-in_ok-fault_reply-in-Err-clause-comes : goal.returns-in_ok-fault_reply-in-Err-clause-comes
returns-in_ok-fault_reply-in-Err-clause-comes g c =
    let told = g.K.Link.told in
    not_delivered c.args.at c.args.joiner.now c.deliver.new.self c.deliver.new.self c.has_lost-is_lost.result c.in-Err.text c.in_ok-fault_reply-in-Err.field-0 (told c.args.link.now) (told c.deliver.new.link)
    c.has_lost-is_lost.ensures c.if-is_lost.false (c.in_ok-delivery.ensures.unsaid, λ schemas client stands. subst (λ d. Tells (Waited schemas client (Ok d) c.deliver.new.self) (told c.args.link.now) (told c.deliver.new.link)) c.in-Err.is (c.in_ok-delivery.ensures.waited schemas client stands)) c.in_ok-fault_reply-in-Err.ensures.text c.in_ok-fault_reply-in-Err.ensures.end

pub returns-then-is_lost-clause-comes : goal.returns-then-is_lost-clause-comes
returns-then-is_lost-clause-comes g c =
    waits_no_more c.args.at c.args.joiner.now c.args.joiner.now c.has_lost-is_lost.result c.in_ok-text.text c.in_ok-fault_reply.field-0 (g.K.Link.told c.args.link.now)
    c.has_lost-is_lost.ensures c.if-is_lost.true c.in_ok-text.ensures c.in_ok-fault_reply.ensures.text c.in_ok-fault_reply.ensures.end
