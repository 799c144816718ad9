-- What the steps of a reader of lines do to it.
use Rattle.std.specs.Prelude.{◌≡◌, ℕ, ◌-◌, ◌<◌, ◌≤◌, true, false, List, [], ◌∷◌, ◌++◌, length, Option}
use Rattle.std.specs.Io.KnownBytes.{Consumes, IsAtEnd}
use Rattle.recording_lines.specs.Lines.{newline, has_newline}
use Rattle.recording_lines.specs.Reading.{Reading, held}
use Rattle.recording_lines.specs.declared.line_reader.Gathered.{Gathered}
use Rattle.recording_lines.specs.declared.line_reader.Gathered.TheVariants.{Whole, TooLong, Part}
use Rattle.recording_lines.specs.declared.line_reader.Next.{Next}
use Rattle.recording_lines.specs.declared.line_reader.Next.TheVariants as next

-- what was held begins with a piece that has no newline and is longer than a line may be
abbrev pub HoldsTooLong : Reading → Type 0
HoldsTooLong reader = (front rest : List ℕ) × (held reader ≡ front ++ rest) × (has_newline front ≡ false) × (reader.longest < length front)

-- what became of the line that is being gathered
abbrev pub Gathers : Gathered → Reading → Reading → Type 0
Gathers Whole old new =
    (held old ≡ new.line ++ newline ∷ new.buffered) × (has_newline new.line ≡ false) × (length new.line ≤ old.longest) × (new.is_open ≡ false) × (new.unread ≡ old.unread) × (new.longest ≡ old.longest)
Gathers TooLong old new = HoldsTooLong old × (new ≡ old)
Gathers Part old new = (new ≡ record old { line = held old; buffered = [] }) × (has_newline (held old) ≡ false) × (length (held old) ≤ old.longest)

-- a piece was read, and only the end of input is an empty one
abbrev pub Fills : ℕ → Reading → Reading → Option (List ℕ) → Option (List ℕ) → Type 0
Fills n old new before after =
    (n ≤ old.unread) × (length new.buffered ≡ n) × (new ≡ record old { buffered = new.buffered; unread = old.unread - n }) × Consumes before after new.buffered × (n ≡ 0 → IsAtEnd after)

-- a line that has a byte ends with the source
abbrev pub Closes : Next → Reading → Reading → Type 0
Closes next.Line old new = (0 < length old.line) × (new ≡ record old { is_open = false })
Closes next.TooLong old new = ⊥
Closes (next.End whole) old new = (old.line ≡ []) × (whole ≡ true) × (new ≡ old)
