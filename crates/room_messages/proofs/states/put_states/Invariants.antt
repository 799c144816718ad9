use Rattle.std.proofs.Common.{◌≡◌, fold}
use Rattle.rooms_val.specs.Maps.{value_at, with_key}
use Rattle.room_accept.specs.Plans.{plan_of}
use Rattle.room_messages.specs.Told.{decided_by, state_of}
use Rattle.room_messages.proofs.states.put_states.Given as goal

-- what the records have under the ids so far was put
abbrev pub invariant-ids : goal.invariant-ids
invariant-ids l =
    l.diff ≡ fold (λ d id. with_key d id (state_of (decided_by l.room.kept) (plan_of l.plan) (value_at l.room.kept.records.0 id))) l.initial.diff l.yielded
