use Rattle.std.proofs.Common.{◌∷◌, []}
use Rattle.std.proofs.lemmas.Result.{on_ok_weaker, on_err_weaker}
use Rattle.world_queues.specs.Queues.{sent_in, given_in}
use Rattle.world_queues.proofs.QueueLemmas.{queue_more, queue_same}
use Rattle.world_queues.proofs.queues.Queues.give.Goals as goal

pub returns-in-Some-clause-given : goal.returns-in-Some-clause-given
returns-in-Some-clause-given c =
    on_ok_weaker c.give.result (queue_more given_in c.args.self.now.channels.items c.args.session c.in-Some.channel.now c.give.new.self c.in-Some.ensures.item.3.0 (c.in-Some.ensures.item.3.1 c.in-Some.channel.now) (c.args.out ∷ [])) c.give.ensures.ok

pub returns-in-Some-clause-err : goal.returns-in-Some-clause-err
returns-in-Some-clause-err c = on_err_weaker c.give.result (queue_same given_in c.args.self.now.channels.items c.args.session c.in-Some.channel.now c.give.new.self c.in-Some.ensures.item.3.0 (c.in-Some.ensures.item.3.1 c.in-Some.channel.now)) c.give.ensures.err

pub returns-in-Some-clause-sent : goal.returns-in-Some-clause-sent
returns-in-Some-clause-sent c = queue_same sent_in c.args.self.now.channels.items c.args.session c.in-Some.channel.now c.give.new.self c.in-Some.ensures.item.3.0 (c.in-Some.ensures.item.3.1 c.in-Some.channel.now) c.give.ensures.sent
