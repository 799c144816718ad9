-- What a worker over a listener has.
use Rattle.std.specs.Prelude.{◌≡◌, ℕ, ◌+◌, Option, None, Some}
use Rattle.socket_link.specs.declared.worker.ListenerWorker.{ListenerWorker}

module _ {L : Type 0} where
  -- how many faults the worker had so far
  abbrev pub worker_faults : ListenerWorker L → ℕ
  worker_faults worker = worker.faults

  -- how many links it still accepts
  abbrev pub links_left : ListenerWorker L → ℕ
  links_left worker = worker.links

-- a link was one of those that were left, and none is given where none is left
abbrev pub CountsLink : {K : Type 0} → ℕ → ℕ → Option K → Type 0
CountsLink old new (Some link) = old ≡ new + 1
CountsLink old new None = (old ≡ 0) × (new ≡ 0)
