use Rattle.room_events.proofs.LegalLemmas.{none_yet}
use Rattle.room_events.proofs.sessions.none_yet.Goals as goal

pub returns : goal.returns
returns c = none_yet
