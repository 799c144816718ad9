-- What a worker that connects once has.
use Rattle.std.specs.Prelude.{◌≡◌, ℕ, ◌+◌, Option, None, Some, Result, Ok, Err}
use Rattle.room_link.specs.declared.passing.Stop.{Stop}
use Rattle.socket_link.specs.declared.connecting.ConnectingWorker.{ConnectingWorker}

-- how many values there are, one or none
abbrev pub how_many : {A : Type 0} → Option A → ℕ
how_many None = 0
how_many (Some value) = 1

module _ {C M : Type 0} where
  -- how many faults the worker had so far
  abbrev pub connecting_faults : ConnectingWorker C M → ℕ
  connecting_faults worker = worker.faults

  -- how many links it still makes
  abbrev pub connects_left : ConnectingWorker C M → ℕ
  connects_left worker = how_many worker.keys

-- a link was one of those that were left, a fault used up one too, and none is given where none is left
abbrev pub UsesLink : {K : Type 0} → Result (Option K) Stop → ℕ → ℕ → Type 0
UsesLink (Ok (Some link)) old new = old ≡ new + 1
UsesLink (Ok None) old new = (old ≡ 0) × (new ≡ 0)
UsesLink (Err stop) old new = old ≡ new + 1
