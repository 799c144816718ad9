use Rattle.std.proofs.Common.{◌≡◌, take, map}
use Rattle.room_model.specs.Schemas.{presence_id}
use Rattle.room_messages.proofs.ids.presence_ids.Given as goal

-- the ids of the sessions so far
abbrev pub invariant-sessions : goal.invariant-sessions
invariant-sessions l = l.ids.items ≡ map presence_id (take l.session-index l.present)
