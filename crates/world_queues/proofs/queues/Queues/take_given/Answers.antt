use Rattle.std.proofs.Common.{◌∙◌, ap, sym, drop}
use Rattle.world_queues.specs.Queues.{sent_in, given_in, queue_at, to_client}
use Rattle.world_queues.proofs.QueueLemmas.{queue_is, queue_set, queue_same, queue_first}
use Rattle.world_queues.proofs.queues.Queues.take_given.Goals as goal

pub returns-in-Some-clause-first : goal.returns-in-Some-clause-first
returns-in-Some-clause-first c = queue_first given_in c.args.self.now.channels.items c.args.session c.in-Some.channel.now c.take_given.new.self c.in-Some.ensures.item.3.0 (c.in-Some.ensures.item.3.1 c.in-Some.channel.now) c.take_given.result c.take_given.ensures.first c.take_given.ensures.rest

pub returns-in-Some-clause-rest : goal.returns-in-Some-clause-rest
returns-in-Some-clause-rest c =
    let was = queue_is given_in c.args.self.now.channels.items c.args.session c.in-Some.channel.now c.take_given.new.self c.in-Some.ensures.item.3.0 (c.in-Some.ensures.item.3.1 c.in-Some.channel.now) in
    queue_set given_in c.args.self.now.channels.items c.args.session c.in-Some.channel.now c.take_given.new.self c.in-Some.ensures.item.3.0 (c.in-Some.ensures.item.3.1 c.in-Some.channel.now) (drop 1 (queue_at c.args.session (to_client c.args.self.now))) (c.take_given.ensures.rest ∙ ap (λ q. drop 1 q) (sym was))

pub returns-in-Some-clause-sent : goal.returns-in-Some-clause-sent
returns-in-Some-clause-sent c = queue_same sent_in c.args.self.now.channels.items c.args.session c.in-Some.channel.now c.take_given.new.self c.in-Some.ensures.item.3.0 (c.in-Some.ensures.item.3.1 c.in-Some.channel.now) c.take_given.ensures.sent
