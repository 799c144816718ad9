-- What is in the queue, followed by what is still to come, is what was in it followed by all.
use Rattle.std.specs.Prelude.{◌≡◌, ◌++◌}
use Rattle.world_queues.specs.Queues.{sent_in, given_in}
use Rattle.world_queues.proofs.channel.Channel.send_all.Given as goal

abbrev pub invariant-messages : goal.invariant-messages
invariant-messages l = record {
  sent : sent_in l.self ++ l.message-iterator.rest.items ≡ sent_in l.fn.self ++ l.fn.messages.items;
  given : given_in l.self ≡ given_in l.fn.self;
}
