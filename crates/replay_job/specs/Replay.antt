-- What a recording writes.
use Rattle.std.specs.Prelude.{◌≡◌, ℕ, ◌+◌, List, [], ◌∷◌, ◌++◌, Bool, true, false, ◌⊎◌, None}
use Rattle.recording_lines.specs.Lines.{is_whole, recorded_lines}
use Rattle.replay_job.specs.Taking.{Progress, Taken, refused, passed, ended, Takes}
use Rattle.replay_job.specs.Texts.{lines_text, fault_line, unended_text}

-- what lines write, whether the recording ends among them, and how far they were read
pub record Written : Type 0 where
  pub text : List ℕ
  pub is_ended : Bool
  pub reached : Progress

-- how what is left to write begins with what becomes of a line: with a fault line or the last lines, and no more; or with lines, and what
-- the rest writes after them
abbrev pub Follows : ℕ → Progress → Taken → (Progress → Written → Type 0) → Written → Type 0
Follows at progress (refused text) Rest w = w ≡ record { text = fault_line at text; is_ended = false; reached = progress }
Follows at progress (passed lines next) Rest w =
    (rest : Written) × Rest next rest × (w ≡ record { text = lines_text lines ++ rest.text; is_ended = rest.is_ended; reached = rest.reached })
Follows at progress (ended lines next) Rest w = w ≡ record { text = lines_text lines; is_ended = true; reached = next }

-- what the lines from a number on write after this progress, where the fault at their end has this text
abbrev pub Writes : Bool → List ℕ → Progress → ℕ → List (List ℕ) → Written → Type 0
Writes trace unended progress at [] w = w ≡ record { text = fault_line at unended; is_ended = false; reached = progress }
Writes trace unended progress at (line ∷ lines) w =
    (taken : Taken) × Takes trace progress line taken
    × Follows at progress taken (λ next rest. Writes trace unended next (at + 1) lines rest) w

-- a recording that is taken up: how far it was read, the number of the next line, the lines that are left, and whether those are all
pub record Rest : Type 0 where
  pub progress : Progress
  pub at : ℕ
  pub lines : List (List ℕ)
  pub whole : Bool

-- a recording of which nothing was read
abbrev pub all_of : List ℕ → Rest
all_of recording = record { progress = None; at = 1; lines = recorded_lines recording; whole = is_whole recording }

-- what is left of a recording writes, with or without its messages
abbrev pub RestWrites : Bool → Rest → Written → Type 0
RestWrites trace rest w = Writes trace (unended_text rest.whole) rest.progress rest.at rest.lines w

-- what a recording writes
abbrev pub Replays : Bool → List ℕ → Written → Type 0
Replays trace recording w = RestWrites trace (all_of recording) w

-- a text begins with the front
abbrev pub IsFront : List ℕ → List ℕ → Type 0
IsFront front text = (rest : List ℕ) × (text ≡ front ++ rest)

-- a front of what is left to write, where it begins with what becomes of a line
abbrev pub FollowsFront : ℕ → Taken → (Progress → List ℕ → Type 0) → List ℕ → Type 0
FollowsFront at (refused text) Rest front = IsFront front (fault_line at text)
FollowsFront at (passed lines next) Rest front =
    IsFront front (lines_text lines) ⊎ ((rest : List ℕ) × Rest next rest × (front ≡ lines_text lines ++ rest))
FollowsFront at (ended lines next) Rest front = IsFront front (lines_text lines)

-- a front of what the lines from a number on write; the lines behind it need not be looked at
abbrev pub WritesFront : Bool → List ℕ → Progress → ℕ → List (List ℕ) → List ℕ → Type 0
WritesFront trace unended progress at [] front = IsFront front (fault_line at unended)
WritesFront trace unended progress at (line ∷ lines) front =
    (front ≡ [])
    ⊎ ((taken : Taken) × Takes trace progress line taken
    × FollowsFront at taken (λ next rest. WritesFront trace unended next (at + 1) lines rest) front)

-- a front of what the rest of a recording writes
abbrev pub RestWritesFront : Bool → Rest → List ℕ → Type 0
RestWritesFront trace rest front = WritesFront trace (unended_text rest.whole) rest.progress rest.at rest.lines front

-- a front of what a recording writes
abbrev pub ReplaysFront : Bool → List ℕ → List ℕ → Type 0
ReplaysFront trace recording front = RestWritesFront trace (all_of recording) front
