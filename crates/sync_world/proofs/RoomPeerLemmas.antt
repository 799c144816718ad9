-- What the room and the peers say of themselves.
use Rattle.std.proofs.Common.{◌≡◌, Bool, cond, Some, None, sym, ap, ◌∙◌}
use Rattle.std.specs.Prelude.{slice_get, option_and_then}
use Rattle.room_model.specs.Rooms as model
use Rattle.sync_room.specs.Sessions.{IsIn, session_of}
use Rattle.sync_room.specs.Standing as room_of
use Rattle.sync_room.specs.declared.room.Room.{Room}
use Rattle.sync_room.specs.declared.session.SessionId.{SessionId}
use Rattle.sync_room.proofs.TableLemmas.{not_left as stays}

-- a session in a room is one of the definitions' room
pub is_here : (state : model.Room) (room : Room) (id : SessionId) → room_of.Stands state room → IsIn id room.sessions → (s : model.Session) × (model.session_at id.number state ≡ Some s)
is_here state room id stands there =
    let s = there.0 in
    let at = stands.agrees.sessions.here id.key s there.1 in (
      session_of s,
      ap (λ n. option_and_then model.unless_left (slice_get state.sessions n)) (sym there.2)
          ∙ ap (option_and_then model.unless_left) at
          ∙ ap (λ (b : Bool). cond b None (Some (session_of s))) (stays s.phase),
    )
