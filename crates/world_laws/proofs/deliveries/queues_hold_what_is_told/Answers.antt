use Rattle.world_laws.proofs.QueueLemmas.{queues_begin, queues_go_on}
use Rattle.world_laws.proofs.deliveries.queues_hold_what_is_told.Goals as goal

pub returns-clause-begins : goal.returns-clause-begins
returns-clause-begins g c = queues_begin

pub returns-clause-goes_on : goal.returns-clause-goes_on
returns-clause-goes_on g c schemas trace world queues event made reached holds is =
    queues_go_on schemas world queues reached holds trace event made is
