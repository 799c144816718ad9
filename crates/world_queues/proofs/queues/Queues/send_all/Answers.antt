use Rattle.std.proofs.lemmas.Result.{on_ok_weaker}
use Rattle.world_queues.specs.Queues.{sent_in, given_in}
use Rattle.world_queues.proofs.QueueLemmas.{queue_more, queue_same}
use Rattle.world_queues.proofs.queues.Queues.send_all.Goals as goal

pub returns-in-Some-clause-sent : goal.returns-in-Some-clause-sent
returns-in-Some-clause-sent c =
    on_ok_weaker c.send_all.result (queue_more sent_in c.args.self.now.channels.items c.args.session c.in-Some.channel.now c.send_all.new.self c.in-Some.ensures.item.3.0 (c.in-Some.ensures.item.3.1 c.in-Some.channel.now) c.args.messages.items)
    c.send_all.ensures.ok

pub returns-in-Some-clause-given : goal.returns-in-Some-clause-given
returns-in-Some-clause-given c = queue_same given_in c.args.self.now.channels.items c.args.session c.in-Some.channel.now c.send_all.new.self c.in-Some.ensures.item.3.0 (c.in-Some.ensures.item.3.1 c.in-Some.channel.now) c.send_all.ensures.given
