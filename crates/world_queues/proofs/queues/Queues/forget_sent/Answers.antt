use Rattle.std.proofs.Common.{[]}
use Rattle.world_queues.specs.Queues.{sent_in, given_in}
use Rattle.world_queues.proofs.QueueLemmas.{queue_set, queue_same}
use Rattle.world_queues.proofs.queues.Queues.forget_sent.Goals as goal

pub returns-in-Some-clause-sent : goal.returns-in-Some-clause-sent
returns-in-Some-clause-sent c = queue_set sent_in c.args.self.now.channels.items c.args.session c.in-Some.channel.now c.forget_sent.new.self c.in-Some.ensures.item.3.0 (c.in-Some.ensures.item.3.1 c.in-Some.channel.now) [] c.forget_sent.ensures.sent

pub returns-in-Some-clause-given : goal.returns-in-Some-clause-given
returns-in-Some-clause-given c = queue_same given_in c.args.self.now.channels.items c.args.session c.in-Some.channel.now c.forget_sent.new.self c.in-Some.ensures.item.3.0 (c.in-Some.ensures.item.3.1 c.in-Some.channel.now) c.forget_sent.ensures.given
