use Rattle.room_events.proofs.PingLemmas.{pongs_paid, no_pong}
use Rattle.room_events.proofs.telling.no_pong_unasked.Goals as goal

pub returns-clause-counts : goal.returns-clause-counts
returns-clause-counts c = pongs_paid

pub returns-clause-none : goal.returns-clause-none
returns-clause-none c = no_pong
