-- What the two jobs leave in their sink, where the source tells what it held.
use Rattle.std.specs.Prelude.{◌≡◌, ◌⊎◌, ℕ, List, [], ⊤, Option, Some, None}
use Rattle.replay_job.specs.Endings.{status_of}
use Rattle.replay_job.specs.Replay.{Written, IsFront}
use Rattle.room_link.specs.Held.{Extends}
use Rattle.snapshot_jobs.specs.Restoring.{Restores, RestoresFront}
use Rattle.snapshot_jobs.specs.Saving.{Saves}

-- what is saved of the recording stands in the sink behind what that held, and the status is the recording's
abbrev pub SavesAll : Option (List ℕ) → ℕ → Option (List ℕ) → Option (List ℕ) → Type 0
SavesAll None status old new = ⊤
SavesAll (Some recording) status old new = (text : List ℕ) × Saves recording status text × Extends old new text

-- a front of that stands there; where nothing does, the recording need not be looked at
abbrev pub SavesFront : Option (List ℕ) → Option (List ℕ) → Option (List ℕ) → Type 0
SavesFront None old new = ⊤
SavesFront (Some recording) old new =
    (front : List ℕ) × ((front ≡ []) ⊎ ((status : ℕ) × (text : List ℕ) × Saves recording status text × IsFront front text)) × Extends old new front

-- what is written of what was read stands in the sink behind what that held, and the status is the recording's
abbrev pub RestoresAll : Option (List ℕ) → ℕ → Option (List ℕ) → Option (List ℕ) → Type 0
RestoresAll None status old new = ⊤
RestoresAll (Some recording) status old new = (w : Written) × Restores recording w × (status ≡ status_of w) × Extends old new w.text

-- a front of that stands there
abbrev pub RestoresAllFront : Option (List ℕ) → Option (List ℕ) → Option (List ℕ) → Type 0
RestoresAllFront None old new = ⊤
RestoresAllFront (Some recording) old new = (front : List ℕ) × RestoresFront recording front × Extends old new front
