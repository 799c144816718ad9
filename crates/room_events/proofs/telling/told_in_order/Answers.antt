use Rattle.room_events.proofs.FollowLemmas.{told_bounded}
use Rattle.room_events.proofs.ToldLemmas.{sent_told, updates_from}
use Rattle.room_events.proofs.telling.told_in_order.Goals as goal

pub returns-clause-bounded : goal.returns-clause-bounded
returns-clause-bounded c = told_bounded

pub returns-clause-sent : goal.returns-clause-sent
returns-clause-sent c = sent_told

pub returns-clause-updates : goal.returns-clause-updates
returns-clause-updates c = updates_from
