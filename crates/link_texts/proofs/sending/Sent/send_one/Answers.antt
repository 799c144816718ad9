use Rattle.link_texts.proofs.sending.Sent.send_one.Goals as goal

pub returns-in-Message-clause-sent : goal.returns-in-Message-clause-sent
returns-in-Message-clause-sent g c = rw c.in-Message.is c.send_message.ensures.sent
