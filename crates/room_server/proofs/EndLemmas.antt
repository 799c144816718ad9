-- Rooms that are closed one after another.
use Rattle.std.proofs.Common.{◌≡◌, ℕ, List, [], ◌∷◌, ◌++◌, All, length, slice_get, suc, zero, Some, IfSome, MatchOption, refl, sym, ap, subst}
use Rattle.std.proofs.lemmas.List.Elements.{All-cons, All-head, All-nil, All-tail}
use Rattle.std.specs.Global.{Vec}
use Rattle.std.specs.Prelude.{⊤}
use Rattle.room_events.specs.Legal.{Legal, state_of}
use Rattle.room_model.specs.declared.limits.TheConstants.{LAST_CLOCK}
use Rattle.room_run.specs.Openings as opened
use Rattle.room_run.specs.Rooms.{opening_of}
use Rattle.room_run.specs.declared.close.Closed.{Closed}
use Rattle.room_run.specs.declared.passes.Gone.{Gone}
use Rattle.room_run.specs.declared.running.RunningRoom.{RunningRoom}
use Rattle.room_server.specs.Closing.{AreEnded, IsEnd}
use Rattle.room_server.specs.Opened.{IsClosed, IsOfVersion, IsOpened}
use Rattle.sync_room.specs.Standing.{Stands}

-- one room more
pub ended_more : (rooms : List RunningRoom) (gones : List (Vec Gone)) (closed : List Closed) (room : RunningRoom) (those : Vec Gone) (one : Closed)
    → AreEnded rooms gones closed → IsEnd room those.items one → AreEnded (rooms ++ room ∷ []) (gones ++ those ∷ []) (closed ++ one ∷ [])
ended_more [] [] [] room those one all end = (end, tt)
ended_more [] [] (c ∷ cs) room those one all end = absurd all
ended_more [] (g ∷ gs) closed room those one all end = absurd all
ended_more (r ∷ rs) [] closed room those one all end = absurd all
ended_more (r ∷ rs) (g ∷ gs) [] room those one all end = absurd all
ended_more (r ∷ rs) (g ∷ gs) (c ∷ cs) room those one all end = (all.0, ended_more rs gs cs room those one all.1 end)

-- as many rooms are closed as there were
pub ended_count : (rooms : List RunningRoom) (gones : List (Vec Gone)) (closed : List Closed) → AreEnded rooms gones closed → length closed ≡ length rooms
ended_count [] [] [] all = refl
ended_count [] [] (c ∷ cs) all = absurd all
ended_count [] (g ∷ gs) closed all = absurd all
ended_count (r ∷ rs) [] closed all = absurd all
ended_count (r ∷ rs) (g ∷ gs) [] all = absurd all
ended_count (r ∷ rs) (g ∷ gs) (c ∷ cs) all = ap suc (ended_count rs gs cs all.1)

-- a room that was closed, with those that are gone of it
pub record EndAt (room : RunningRoom) (gones : List (Vec Gone)) (closed : List Closed) (number : ℕ) : Type 0 where
  pub those : Vec Gone
  pub one : Closed
  pub gone_there : slice_get gones number ≡ Some those
  pub there : slice_get closed number ≡ Some one
  pub end : IsEnd room those.items one

-- each room is at its place
pub ended_at : (rooms : List RunningRoom) (gones : List (Vec Gone)) (closed : List Closed) (number : ℕ) (room : RunningRoom)
    → AreEnded rooms gones closed → slice_get rooms number ≡ Some room → EndAt room gones closed number
ended_at [] gones closed number room all at = absurd (subst (λ o. MatchOption o ⊤ (λ _. ⊥)) at tt)
ended_at (r ∷ rs) [] closed number room all at = absurd all
ended_at (r ∷ rs) (g ∷ gs) [] number room all at = absurd all
ended_at (r ∷ rs) (g ∷ gs) (c ∷ cs) zero room all at =
    record { those = g; one = c; gone_there = refl; there = refl; end = subst (λ o. IfSome o (λ x. IsEnd x g.items c)) at all.0 }
ended_at (r ∷ rs) (g ∷ gs) (c ∷ cs) (suc number) room all at =
    let e = ended_at rs gs cs number room all.1 at in
    record { those = e.those; one = e.one; gone_there = e.gone_there; there = e.there; end = e.end }

-- a room that was opened at version 3 is closed so
closed_of : (room : RunningRoom) (gones : List Gone) (one : Closed) → IsOpened room → IsEnd room gones one → IsClosed one
closed_of room gones one is end =
    let schemas = opened.schemas_of (opening_of room) in
    let last = opened.last_of (opening_of room) in record {
      version = subst IsOfVersion (sym end.schema) is.version;
      legal = subst (λ s. Legal s LAST_CLOCK one.pen) (sym end.schema) (subst (λ n. Legal schemas n one.pen) is.last end.legal);
      room = subst (λ s. Stands (state_of s LAST_CLOCK one.pen) one.room) (sym end.schema) (subst (λ n. Stands (state_of schemas n one.pen) one.room) is.last end.room_is);
    }

pub all_closed : (rooms : List RunningRoom) (gones : List (Vec Gone)) (closed : List Closed) → All IsOpened rooms → AreEnded rooms gones closed → All IsClosed closed
all_closed [] [] [] is all = All-nil _
all_closed [] [] (c ∷ cs) is all = absurd all
all_closed [] (g ∷ gs) closed is all = absurd all
all_closed (r ∷ rs) [] closed is all = absurd all
all_closed (r ∷ rs) (g ∷ gs) [] is all = absurd all
all_closed (r ∷ rs) (g ∷ gs) (c ∷ cs) is all =
    All-cons IsClosed c cs (closed_of r g.items c (All-head IsOpened r rs is) all.0) (all_closed rs gs cs (All-tail IsOpened r rs is) all.1)
