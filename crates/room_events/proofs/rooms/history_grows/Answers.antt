use Rattle.room_events.proofs.FollowLemmas.{history_grows}
use Rattle.room_events.proofs.rooms.history_grows.Goals as goal

pub returns : goal.returns
returns c = history_grows
