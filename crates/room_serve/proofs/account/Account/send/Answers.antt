use Rattle.link_texts.proofs.SendingLemmas.{tells_more}
use Rattle.room_serve.proofs.AccountLemmas.{delivers_all}
use Rattle.room_serve.proofs.account.Account.send.Goals as goal

pub returns-in-Ok-clause-sent : goal.returns-in-Ok-clause-sent
returns-in-Ok-clause-sent g c =
    tells_more _ _ c.in-Ok.ensures.sent (λ x y told. delivers_all c.args.outs.now c.args.self.now c.send_all.new.self x y told)
