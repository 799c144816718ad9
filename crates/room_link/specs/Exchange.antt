-- What a link has exchanged with its peer, and what a call does to that.
use Rattle.std.specs.Prelude.{◌≡◌, ℕ, List, [], ◌∷◌, ◌++◌, map, ⊤, Option, None, Some, Result, Ok, Err}
use Rattle.room_link.specs.declared.passing.Incoming.{Incoming}
use Rattle.room_link.specs.declared.passing.Incoming.TheVariants as gives
use Rattle.room_link.specs.declared.passing.Outgoing.{Outgoing}
use Rattle.room_link.specs.declared.passing.Stop.{Stop}

-- what comes from a peer before the end: a text, or an Idle
pub data Arrival : Type 0 where
  text : List ℕ → Arrival
  idle : Arrival

pub record Exchange : Type 0 where
  -- what is still to come, the next first
  pub left : List Arrival
  -- what went out, the oldest first
  pub sent : List Outgoing

-- where the exchange is told, it was told before, and the call made of the old one the new one
abbrev pub Tells : {E : Type 0} → (E → E → Type 0) → Option E → Option E → Type 0
Tells made old None = ⊤
Tells made None (Some new) = ⊥
Tells made (Some old) (Some new) = made old new

-- what is given was the next to come, the end is given where nothing is left, and a call that returns no value takes nothing
abbrev pub Takes : Result Incoming Stop → Exchange → Exchange → Type 0
Takes (Ok (gives.Text bytes)) old new = old ≡ record new { left = text bytes.items ∷ new.left }
Takes (Ok gives.Idle) old new = old ≡ record new { left = idle ∷ new.left }
Takes (Ok gives.End) old new = (old.left ≡ []) × (new ≡ old)
Takes (Err stop) old new = new ≡ old

-- what was to be sent went out behind the rest, and nothing where the call returned no value
abbrev pub Sends : {A : Type 0} → Result A Stop → Outgoing → Exchange → Exchange → Type 0
Sends (Ok done) what old new = new ≡ record old { sent = old.sent ++ what ∷ [] }
Sends (Err stop) what old new = new ≡ old
