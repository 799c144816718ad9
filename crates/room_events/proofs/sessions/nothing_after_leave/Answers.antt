use Rattle.room_events.proofs.LegalLemmas.{nothing_after_leave}
use Rattle.room_events.proofs.sessions.nothing_after_leave.Goals as goal

pub returns : goal.returns
returns c = nothing_after_leave
