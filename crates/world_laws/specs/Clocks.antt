-- Where the clocks of clients, and those of what is in flight to them, lie.
use Rattle.std.specs.Prelude.{◌≡◌, ℕ, ◌<◌, ◌≤◌, ℤ, pos, negsuc, List, [], ◌∷◌, length, slice_get, Some}
use Rattle.room_model.specs.Rooms.{Notice, snapshot_at, updates_between, pong, end}
use Rattle.room_model.specs.Replicas.{Client}
use Rattle.room_model.specs.Worlds.{Channel, World}

-- a clock that a client has reached is -1, or at most the room's
abbrev pub IsReached : ℕ → ℤ → Type 0
IsReached clock (pos reached) = reached ≤ clock
IsReached clock (negsuc n) = n ≡ 0

-- what a notice tells lies at most at the room's clock, and ends above where it begins
abbrev pub IsWithin : ℕ → Notice → Type 0
IsWithin clock (snapshot_at at) = at ≤ clock
IsWithin clock (updates_between from to) = (from < to) × (to ≤ clock)
IsWithin clock pong = Unit {0}
IsWithin clock (end reason) = Unit {0}

-- it is so of each notice of a list
abbrev pub AreWithin : ℕ → List Notice → Type 0
AreWithin clock [] = Unit {0}
AreWithin clock (notice ∷ notices) = IsWithin clock notice × AreWithin clock notices

-- the clocks of a world
pub record AreClocks (world : World) : Type 0 where
  -- each client's
  pub reached : (number : ℕ) (client : Client) → slice_get world.clients number ≡ Some client → IsReached (length world.room.history) client.reached
  -- those of all that is in flight, to whichever session
  pub told : (session : ℕ) (channel : Channel) → slice_get world.channels session ≡ Some channel → AreWithin (length world.room.history) channel.to_client
