-- What a link over a socket has.
use Rattle.std.specs.Prelude.{ℕ, List, ⊤, Result, Ok, Err}
use Rattle.room_link.specs.declared.passing.Incoming.{Incoming}
use Rattle.room_link.specs.declared.passing.Incoming.TheVariants as gives
use Rattle.room_link.specs.declared.passing.Stop.{Stop}
use Rattle.socket_link.specs.declared.link.SocketLink.{SocketLink}
use Rattle.socket_link.specs.declared.wire.Wire.{Wire}

module _ {S K : Type 0} where
  -- how many faults the link had so far
  abbrev pub link_faults : SocketLink S K → ℕ
  link_faults link = link.faults

  -- the wire of a link
  abbrev pub wire_of : SocketLink S K → Wire S K
  wire_of link = link.wire

-- where the link gave a text, this holds of its bytes
abbrev pub IfGivesText : Result Incoming Stop → (List ℕ → Type 0) → Type 0
IfGivesText (Ok (gives.Text bytes)) holds = holds bytes.items
IfGivesText (Ok other) holds = ⊤
IfGivesText (Err stop) holds = ⊤
