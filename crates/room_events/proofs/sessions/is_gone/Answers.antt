use Rattle.room_events.proofs.LegalLemmas.{is_gone}
use Rattle.room_events.proofs.sessions.is_gone.Goals as goal

pub returns : goal.returns
returns c = is_gone
