use Rattle.room_events.proofs.LegalLemmas.{enters_once}
use Rattle.room_events.proofs.sessions.enters_once.Goals as goal

pub returns : goal.returns
returns c = enters_once
