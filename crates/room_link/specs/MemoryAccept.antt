-- What a worker in memory has of its links.
use Rattle.std.specs.Prelude.{ℕ, Option, None, Some, if◌then◌else◌}
use Rattle.room_link.specs.Worker.{Worker}
use Rattle.room_link.specs.declared.link.Link.{Ghosts}
use Rattle.room_link.specs.declared.memory_accept.SteadyAccept.{SteadyAccept}

module _ {L : Type 0} {link : Ghosts L} where
  -- the links left and returned, where each that came back is kept
  abbrev pub worker_of : SteadyAccept L link → Option (Worker L)
  worker_of accept =
      if accept.is_whole then Some (record { left = accept.links.items; returned = accept.returned.items })
      else None

  -- how many of the links that are out have their place
  abbrev pub places_of : SteadyAccept L link → ℕ
  places_of accept = accept.places
