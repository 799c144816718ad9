use Rattle.std.proofs.Common.{◌≡◌, count_by}
use Rattle.room_model.specs.Rooms as model
use Rattle.sync_room.specs.Sessions.{IsIn}
use Rattle.sync_room.specs.Standing.{Agrees, tree_of}
use Rattle.sync_room.specs.declared.session.SessionId.{SessionId}
use Rattle.sync_room.proofs.SlowLemmas.{IsSlowing, is_live_slot}
use Rattle.sync_room.proofs.room.Room.end_slow.Given as goal

-- what is left of each room that it agreed with
abbrev pub invariant-ends : goal.invariant-ends
invariant-ends l = record {
  agrees : (state : model.Room) → Agrees state l.initial.self → (now : model.Room) × IsSlowing state now × Agrees now l.self;
  others : (other : SessionId) → IsIn other l.initial.self.sessions → IsIn other l.self.sessions;
  schema : tree_of l.self ≡ tree_of l.initial.self;
}

abbrev pub decreases-ends : goal.decreases-ends
decreases-ends l = count_by is_live_slot l.self.sessions.present.slots
