-- How the making of a recording ends, and what it leaves in its sink.
use Rattle.std.specs.Prelude.{◌≡◌, ℕ, ◌⊎◌, List, Bool, Option}
use Rattle.room_link.specs.Held.{Extends}
use Rattle.make_job.specs.Made.{IsMade, IsMadeFront}

-- the statuses of a recording that is made
abbrev pub IsMakeStatus : ℕ → Type 0
IsMakeStatus status = (status ≡ 0) ⊎ (status ≡ 5) ⊎ (status ≡ 6)

-- what is made by a seed was added to a sink
abbrev pub Makes : ℕ → ℕ → Bool → Option (List ℕ) → Option (List ℕ) → Type 0
Makes seed size print old new = (text : List ℕ) × IsMade seed size print text × Extends old new text

-- a front of it was
abbrev pub MakesFront : ℕ → ℕ → Bool → Option (List ℕ) → Option (List ℕ) → Type 0
MakesFront seed size print old new = (front : List ℕ) × IsMadeFront seed size print front × Extends old new front
