-- Where a reader of lines stands, and what is still to come from it and its source.
use Rattle.std.specs.Prelude.{◌≡◌, ℕ, ◌+◌, ◌<◌, ◌≤◌, nat_lt, List, [], ◌∷◌, ◌++◌, length, Bool, ⊤, Option, None, Some, if◌then◌else◌}
use Rattle.std.specs.Io.KnownBytes.{Consumes, prepend_known}
use Rattle.recording_lines.specs.Lines.{lines_left}

-- the line that was given last or, while it is open, is being gathered; the bytes that were read and wait in the buffer;
-- how many more may be read; how many bytes a line may have without its newline
pub record Reading : Type 0 where
  pub line : List ℕ
  pub is_open : Bool
  pub buffered : List ℕ
  pub unread : ℕ
  pub longest : ℕ

-- the bytes of a line that has no end yet
abbrev pub gathered : Reading → List ℕ
gathered reader = if reader.is_open then reader.line else []

-- what was read and stands in no line that was given
abbrev pub held : Reading → List ℕ
held reader = gathered reader ++ reader.buffered

-- how many of the bytes to come may be looked at
abbrev pub budget : Reading → ℕ
budget reader = length (held reader) + reader.unread

-- what is still to come: what the reader holds, followed by what its source has left, where that tells it
abbrev pub to_come : Reading → Option (List ℕ) → Option (List ℕ)
to_come reader left = prepend_known (held reader) left

-- where a line may have so many bytes: the first line of what was to come is this one, the others are to come now, and that
-- is whole exactly where it was; of each it is said first how many bytes of it may be looked at
abbrev pub LosesLine : ℕ → ℕ → Option (List ℕ) → ℕ → Option (List ℕ) → List ℕ → Type 0
LosesLine longest before None after new line = ⊤
LosesLine longest before (Some old) after None line = ⊥
LosesLine longest before (Some old) after (Some new) line =
    (lines_left longest before old ≡ line ∷ lines_left longest after new) × (nat_lt (length old) before ≡ nat_lt (length new) after)

-- where a line may have so many bytes: the first line has more
abbrev pub BeginsTooLong : ℕ → List (List ℕ) → Type 0
BeginsTooLong longest [] = ⊥
BeginsTooLong longest (line ∷ lines) = longest < length line

-- a front is gone from the source, where that tells what is left, and nothing else; with what may still be read it has no
-- more bytes than might be read before
abbrev pub TakesUnread : ℕ → ℕ → Option (List ℕ) → Option (List ℕ) → Type 0
TakesUnread before after old new = (front : List ℕ) × (length front + after ≤ before) × Consumes old new front
