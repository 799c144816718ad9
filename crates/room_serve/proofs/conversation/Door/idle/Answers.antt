use Rattle.std.proofs.Common.{subst}
use Rattle.link_texts.proofs.SendingLemmas.{tells_more}
use Rattle.room_serve.proofs.TurnLemmas.{answers}
use Rattle.room_serve.specs.Answering.{idled}
use Rattle.room_serve.specs.Turns.{Replies}
use Rattle.room_serve.proofs.conversation.Door.idle.Goals as goal

pub returns-clause-talk : goal.returns-clause-talk
returns-clause-talk g c =
    let result = c.look-outs.result in
    tells_more _ _ c.reply.ensures.replied (λ x y told. answers idled result c.args.conversation.now _ x y c.look-outs.ensures.asked
    (subst (λ a. Replies result a c.reply.new.self x y) c.look-outs.ensures.account told))
