-- What is kept of each of some clients.
use Rattle.std.specs.Prelude.{◌≡◌, ℕ, List, length, slice_get, Some}

-- of each client this is kept, by the clients' numbers, and nothing else
pub record AreKept {C K : Type 0} (Is : C → K → Type 0) (clients : List C) (kept : List K) : Type 0 where
  pub long : length kept ≡ length clients
  pub each : (number : ℕ) (client : C) (one : K) → slice_get clients number ≡ Some client → slice_get kept number ≡ Some one → Is client one
