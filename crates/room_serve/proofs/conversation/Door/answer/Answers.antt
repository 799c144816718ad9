use Rattle.std.proofs.Common.{ap, subst, ◌∙◌}
use Rattle.link_texts.proofs.SendingLemmas.{tells_more}
use Rattle.room_serve.proofs.TurnLemmas.{answers}
use Rattle.room_serve.specs.Answering.{said}
use Rattle.room_serve.specs.Turns.{IsAsked, Replies}
use Rattle.room_serve.proofs.conversation.Door.answer.Goals as goal

pub returns-clause-talk : goal.returns-clause-talk
returns-clause-talk g c =
    let result = c.handle-outs.result in
    let account = c.handle-outs.ensures.account ∙ ap (λ v. v.account) c.enter.ensures in
    let asked = subst (λ p. IsAsked (said c.args.message.now) result p c.handle-outs.new.conversation.pass) (ap (λ v. v.pass) c.enter.ensures) c.handle-outs.ensures.asked in
    tells_more _ _ c.reply.ensures.replied
    (λ x y told. answers (said c.args.message.now) result c.args.conversation.now _ x y asked (subst (λ a. Replies result a c.reply.new.self x y) account told))
