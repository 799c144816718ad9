use Rattle.room_events.proofs.LegalLemmas.{is_in}
use Rattle.room_events.proofs.sessions.is_in.Goals as goal

pub returns : goal.returns
returns c = is_in
