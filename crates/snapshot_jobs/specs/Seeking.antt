-- The first line that isn't passed by.
use Rattle.std.specs.Prelude.{◌≡◌, ◌<◌, ℕ, ◌+◌, nat_le, nat_lt, List, [], ◌∷◌, length, Bool, ◌&&◌, if◌then◌else◌, ⊤, Option, Some, None}
use Rattle.recording_lines.specs.Lines.{is_blank, lines_left}
use Rattle.snapshot_jobs.specs.declared.seek.Sought.{Sought}
use Rattle.snapshot_jobs.specs.declared.seek.Sought.TheVariants as code

-- what is found: a line, by its number, and the lines behind it; or none, and the number behind the last line
pub data First : Type 0 where
  found : ℕ → List ℕ → List (List ℕ) → First
  nothing : ℕ → First

-- a blank line that isn't longer than this is passed by
abbrev pub is_passed : ℕ → List ℕ → Bool
is_passed longest line = nat_le (length line) longest && is_blank line

-- the first of some lines that isn't passed by; the first of them has this number
abbrev pub first_line : ℕ → ℕ → List (List ℕ) → First
first_line longest at [] = nothing at
first_line longest at (line ∷ lines) = if is_passed longest line then first_line longest (at + 1) lines else found at line lines

-- the code found what is first of some lines, whole or not; where it gives a line, the lines behind that are still to come; where a line is
-- too long for its reader, it gives none
abbrev pub IsFirst : ℕ → First → Bool → ℕ → Option (List ℕ) → List ℕ → Sought → Type 0
IsFirst most first whole after None line (code.Line at) = ⊥
IsFirst most first whole after (Some come) line (code.Line at) = (first ≡ found at line (lines_left most after come)) × (whole ≡ nat_lt (length come) after)
IsFirst most first whole after come line (code.TooLong at) = (long : List ℕ) × (lines : List (List ℕ)) × (first ≡ found at long lines) × (most < length long)
IsFirst most first whole after come line (code.End at ends) = (first ≡ nothing at) × (ends ≡ whole)

-- the same, where it is told what is to come
abbrev pub Seeks : ℕ → ℕ → ℕ → ℕ → Option (List ℕ) → ℕ → Option (List ℕ) → List ℕ → Sought → Type 0
Seeks longest most at before None after come line sought = ⊤
Seeks longest most at before (Some old) after come line sought =
    IsFirst most (first_line longest at (lines_left most before old)) (nat_lt (length old) before) after come line sought

-- the property holds of the number of a line that is given
abbrev pub IfLine : Sought → (ℕ → Type 0) → Type 0
IfLine (code.Line at) P = P at
IfLine (code.TooLong at) P = ⊤
IfLine (code.End at whole) P = ⊤
