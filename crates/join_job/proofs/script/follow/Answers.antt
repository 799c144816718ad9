use Rattle.std.proofs.Common.{◌≡◌, List, None, refl, sym, ap, subst, ◌∙◌, inl}
use Rattle.client_link.specs.declared.saying.Saying.{Saying}
use Rattle.room_join.specs.declared.joiner.Joiner as code
use Rattle.join_job.specs.Texts.{lines_text}
use Rattle.join_job.specs.declared.script.Reply.{Reply}
use Rattle.std.proofs.lemmas.Result.{err_from_is_err_and}
use Rattle.join_job.proofs.TurnLemmas.{SaysPushes, cut_off, followed_whole, followed_begun, followed_said}
use Rattle.join_job.proofs.script.follow.Goals as goal

-- what is sent is what was said
says : {said given : List Saying} → given ≡ said → (start mid : code.Joiner) → SaysPushes start said mid → SaysPushes start given mid
says same start mid so = subst (λ l. SaysPushes start l mid) (sym same) so

pub returns-in_err-said-clause-comes : goal.returns-in_err-said-clause-comes
returns-in_err-said-clause-comes g c =
    let p = err_from_is_err_and c.from_residual.result c.from_residual.ensures.1 in
    rw p.1 (cut_off _ (g.K.Link.told c.args.link.now) (λ x schemas client stands. inl refl))

pub returns-in_err-send_all-clause-comes : goal.returns-in_err-send_all-clause-comes
returns-in_err-send_all-clause-comes g c =
    let p = err_from_is_err_and c.from_residual-in_err-send_all.result c.from_residual-in_err-send_all.ensures.1 in
    let told = g.K.Link.told in
    rw p.1 (followed_begun c.args.joiner.now c.push.new.self c.push.new.self c.args.lines.items c.deref.result.now (Unit {0}) c.in_err-send_all.field-0.0 p.0 (told c.args.link.now) (told c.send_all.new.link)
    (says c.deref.ensures.value c.args.joiner.now c.push.new.self c.in_ok-said.ensures) c.in_err-send_all.ensures.sent)

pub returns-in_err-all-clause-comes : goal.returns-in_err-all-clause-comes
returns-in_err-all-clause-comes g c =
    let p = err_from_is_err_and c.from_residual-in_err-all.result c.from_residual-in_err-all.ensures.1 in
    let told = g.K.Link.told in
    rw p.1 (followed_said c.args.joiner.now c.push.new.self c.tell.new.self c.args.lines.items c.deref.result.now c.in_ok-send_all.field-0 p.0 (told c.args.link.now) (told c.send_all.new.link)
    (says c.deref.ensures.value c.args.joiner.now c.push.new.self c.in_ok-said.ensures) c.in_ok-send_all.ensures.sent)

pub returns-in_err-text-clause-comes : goal.returns-in_err-text-clause-comes
returns-in_err-text-clause-comes g c =
    let p = err_from_is_err_and c.from_residual-in_err-text.result c.from_residual-in_err-text.ensures.1 in
    let told = g.K.Link.told in
    rw p.1 (followed_said c.args.joiner.now c.push.new.self c.tell.new.self c.args.lines.items c.deref.result.now c.in_ok-send_all.field-0 p.0 (told c.args.link.now) (told c.send_all.new.link)
    (says c.deref.ensures.value c.args.joiner.now c.push.new.self c.in_ok-said.ensures) c.in_ok-send_all.ensures.sent)

pub returns-clause-comes : goal.returns-clause-comes
returns-clause-comes g c =
    let told = g.K.Link.told in
    let reply : Reply = record { text = c.in_ok-text.text; end = None } in
    followed_whole c.args.joiner.now c.push.new.self c.tell.new.self c.args.lines.items c.deref.result.now c.in_ok-send_all.field-0 c.in_ok-all.all.items reply (told c.args.link.now) (told c.send_all.new.link)
    (says c.deref.ensures.value c.args.joiner.now c.push.new.self c.in_ok-said.ensures) c.in_ok-send_all.ensures.sent c.in_ok-all.ensures (c.in_ok-text.ensures ∙ ap lines_text c.deref-2.ensures.value) refl
