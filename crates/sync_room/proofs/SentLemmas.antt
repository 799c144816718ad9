-- What a live session's sent clock tells of a room that it stands in.
use Rattle.std.proofs.Common.{◌≡◌, ℕ, ◌-◌, ◌≤◌, min, length, nat_abs, Some, refl, sym, ap, subst, ◌∙◌}
use Rattle.slab.specs.Slab.{get}
use Rattle.room_model.specs.Rooms as model
use Rattle.room_model.specs.Reachable.{IsSentNear}
use Rattle.room_model.specs.declared.limits.TheConstants.{MOST_TOLD}
use Rattle.sync_room.specs.Sessions.{phase_of, session_of, IsSent, IsSentIn}
use Rattle.sync_room.specs.Standing.{Stands}
use Rattle.sync_room.specs.declared.room.Room.{Room}
use Rattle.sync_room.specs.declared.session.Phase.{Phase}
use Rattle.sync_room.specs.declared.session.Session.{Session}

module _ (state : model.Room) (room : Room) (key : ℕ) (s : Session) (phase : Phase) (h : Stands state room) (at : get room.sessions.present key ≡ Some s) (is : s.phase ≡ phase) where
  pub sent_kept : IsSentIn state.history s.number s.pushed.items phase
  sent_kept = subst (IsSentIn state.history s.number s.pushed.items) is (h.agrees.sessions.kept key s at).sent

  pub sent_near : IsSentNear (model.start state) (length state.history) (phase_of phase)
  sent_near = subst (λ phase. IsSentNear (model.start state) (length state.history) (phase_of phase)) is (h.near s.number (session_of s) (h.agrees.sessions.here key s at))
