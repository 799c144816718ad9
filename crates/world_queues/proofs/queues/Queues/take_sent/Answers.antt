use Rattle.std.proofs.Common.{◌∙◌, ap, sym, drop}
use Rattle.world_queues.specs.Queues.{sent_in, given_in, queue_at, to_room}
use Rattle.world_queues.proofs.QueueLemmas.{queue_is, queue_set, queue_same, queue_first}
use Rattle.world_queues.proofs.queues.Queues.take_sent.Goals as goal

pub returns-in-Some-clause-first : goal.returns-in-Some-clause-first
returns-in-Some-clause-first c = queue_first sent_in c.args.self.now.channels.items c.args.session c.in-Some.channel.now c.take_sent.new.self c.in-Some.ensures.item.3.0 (c.in-Some.ensures.item.3.1 c.in-Some.channel.now) c.take_sent.result c.take_sent.ensures.first c.take_sent.ensures.rest

pub returns-in-Some-clause-rest : goal.returns-in-Some-clause-rest
returns-in-Some-clause-rest c =
    let was = queue_is sent_in c.args.self.now.channels.items c.args.session c.in-Some.channel.now c.take_sent.new.self c.in-Some.ensures.item.3.0 (c.in-Some.ensures.item.3.1 c.in-Some.channel.now) in
    queue_set sent_in c.args.self.now.channels.items c.args.session c.in-Some.channel.now c.take_sent.new.self c.in-Some.ensures.item.3.0 (c.in-Some.ensures.item.3.1 c.in-Some.channel.now) (drop 1 (queue_at c.args.session (to_room c.args.self.now))) (c.take_sent.ensures.rest ∙ ap (λ q. drop 1 q) (sym was))

pub returns-in-Some-clause-given : goal.returns-in-Some-clause-given
returns-in-Some-clause-given c = queue_same given_in c.args.self.now.channels.items c.args.session c.in-Some.channel.now c.take_sent.new.self c.in-Some.ensures.item.3.0 (c.in-Some.ensures.item.3.1 c.in-Some.channel.now) c.take_sent.ensures.given
