-- What a worker's links are, and what a call does to them.
use Rattle.std.specs.Prelude.{◌≡◌, List, [], ◌∷◌, ◌++◌, Option, None, Some, Result, Ok, Err}
use Rattle.room_link.specs.declared.passing.Stop.{Stop}

pub record Worker (L : Type 0) : Type 0 where
  -- the links that are still to be handed out, the next first
  pub left : List L
  -- those that were given back, the oldest first
  pub returned : List L

-- the link that is handed out was the next, none is handed out where none is left, and a call that returns no value loses none
abbrev pub Accepts : {L : Type 0} → Result (Option L) Stop → Worker L → Worker L → Type 0
Accepts (Ok (Some link)) old new = old ≡ record new { left = link ∷ new.left }
Accepts (Ok None) old new = (old.left ≡ []) × (new ≡ old)
Accepts (Err stop) old new = new ≡ old

-- the link was given back behind the others
abbrev pub GivesBack : {L : Type 0} → L → Worker L → Worker L → Type 0
GivesBack link old new = new ≡ record old { returned = old.returned ++ link ∷ [] }

-- a link joined those that are left
abbrev pub Adds : {L : Type 0} → L → Worker L → Worker L → Type 0
Adds link old new = new ≡ record old { left = old.left ++ link ∷ [] }

-- the returned links, where they are told
abbrev pub returned_of : {L : Type 0} → Option (Worker L) → Option (List L)
returned_of None = None
returned_of (Some worker) = Some worker.returned
