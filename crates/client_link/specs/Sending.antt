-- What goes out on a link for what a client says.
use Rattle.std.specs.Prelude.{◌≡◌, ◌⊎◌, ℕ, List, [], ◌∷◌, ◌++◌, map, Result, Ok, Err}
use Rattle.client_link.specs.Sayings.{saying_val}
use Rattle.client_link.specs.declared.saying.Saying.{Saying}
use Rattle.link_texts.specs.Sending.{ArePieces, Begins}
use Rattle.room_link.specs.Exchange.{Exchange}
use Rattle.room_link.specs.declared.passing.Outgoing.{Outgoing}
use Rattle.room_link.specs.declared.passing.Outgoing.TheVariants.{Text}
use Rattle.rooms_val.specs.Json.{text_of}

-- these are texts as they are
abbrev pub AreTexts : List (List ℕ) → List Outgoing → Type 0
AreTexts pieces put = put ≡ map Text pieces

-- this goes out for something said: the pieces of its text
abbrev pub IsPut : Saying → List Outgoing → Type 0
IsPut saying put = ArePieces (text_of (saying_val saying)) put

-- the same of all that is said, in order
abbrev pub ArePut : List Saying → List Outgoing → Type 0
ArePut [] put = put ≡ []
ArePut (saying ∷ sayings) put = (first rest : List Outgoing) × IsPut saying first × ArePut sayings rest × (put ≡ first ++ rest)

-- this is a beginning of what goes out for all that is said: all of some first sayings, and of the next one nothing or the first of
-- its pieces
abbrev pub AreBegun : List Saying → List Outgoing → Type 0
AreBegun [] put = put ≡ []
AreBegun (saying ∷ sayings) put =
    Begins (IsPut saying) put
    ⊎ ((first rest : List Outgoing) × IsPut saying first × AreBegun sayings rest × (put ≡ first ++ rest))

-- something of this kind went out on a link, behind the rest, and nothing came
abbrev pub Puts : (List Outgoing → Type 0) → Exchange → Exchange → Type 0
Puts is old new = (put : List Outgoing) × is put × (new ≡ record old { sent = old.sent ++ put })

-- what was to go out went out: all of it if the call succeeded, else what has begun
abbrev pub PutsAll : {A S : Type 0} → (List Outgoing → Type 0) → (List Outgoing → Type 0) → Result A S → Exchange → Exchange → Type 0
PutsAll all begun (Ok done) old new = Puts all old new
PutsAll all begun (Err stop) old new = Puts begun old new
