use Rattle.room_events.proofs.LegalLemmas.{is_reachable}
use Rattle.room_events.proofs.rooms.is_reachable.Goals as goal

pub returns : goal.returns
returns c = is_reachable
