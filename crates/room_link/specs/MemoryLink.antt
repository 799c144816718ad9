-- What a link in memory has exchanged.
use Rattle.std.specs.Prelude.{ℕ, List, map}
use Rattle.room_link.specs.declared.passing.Arrival.{Arrival as Stored}
use Rattle.room_link.specs.declared.passing.Arrival.TheVariants as stored
use Rattle.room_link.specs.declared.memory_link.SteadyLink.{SteadyLink}
use Rattle.room_link.specs.Exchange.{Arrival, text, idle, Exchange}

-- the arrival that a stored one stands for
abbrev pub arrival_of : Stored → Arrival
arrival_of (stored.Text bytes) = text bytes.items
arrival_of stored.Idle = idle

-- what is left of the arrivals, and what was sent
abbrev pub exchange_of : SteadyLink → Exchange
exchange_of link = record { left = map arrival_of link.arrivals.items; sent = link.sent.items }
