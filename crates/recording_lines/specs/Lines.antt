-- How a recording is cut into lines.
use Rattle.std.specs.Prelude.{◌≡◌, ℕ, ◌==◌, ◌&&◌, ◌||◌, nat_lt, List, [], ◌∷◌, ◌++◌, length, take, Bool, true, false, if◌then◌else◌}
use Rattle.std.specs.List.{list_all, list_any}
use Rattle.recording_lines.specs.declared.lines.TheConstants.{NEWLINE, MOST_BYTES, LONGEST_LINE}

abbrev pub newline : ℕ
newline = NEWLINE

-- how many bytes of a recording are looked at
abbrev pub most_bytes : ℕ
most_bytes = MOST_BYTES

-- how many bytes a line may have without its newline, where nothing else is said
abbrev pub longest_line : ℕ
longest_line = LONGEST_LINE

abbrev pub has_newline : List ℕ → Bool
has_newline bytes = list_any (λ c. c == newline) bytes

-- a piece is what stands before the first newline where it ends with one, and else it is all
abbrev pub IsFirstPiece : List ℕ → List ℕ → Bool → Type 0
IsFirstPiece bytes piece true = (has_newline piece ≡ false) × ((rest : List ℕ) × (bytes ≡ piece ++ newline ∷ rest))
IsFirstPiece bytes piece false = (has_newline piece ≡ false) × (bytes ≡ piece)

-- what a further byte in front makes of the lines and of what follows the last of them
abbrev pub with_front : ℕ → List (List ℕ) → List ℕ → List (List ℕ) × List ℕ
with_front c [] rest = ([], c ∷ rest)
with_front c (line ∷ lines) rest = ((c ∷ line) ∷ lines, rest)

-- the lines that end in a newline, and what follows the last of them
abbrev pub cut : List ℕ → List (List ℕ) × List ℕ
cut [] = ([], [])
cut (c ∷ cs) = if c == newline then ([] ∷ (cut cs).0, (cut cs).1) else with_front c (cut cs).0 (cut cs).1

-- where a line may have so many bytes: whether a last piece is a line, as it is where it has a byte, and the recording ends
-- with it or it is too long for a line already
abbrev pub is_last_line : ℕ → Bool → List ℕ → Bool
is_last_line longest whole piece = nat_lt 0 (length piece) && (whole || nat_lt longest (length piece))

abbrev pub last_line : ℕ → Bool → List ℕ → List (List ℕ)
last_line longest whole piece = if is_last_line longest whole piece then piece ∷ [] else []

-- the lines of some bytes, which are the whole recording or its front
abbrev pub lines_of : ℕ → Bool → List ℕ → List (List ℕ)
lines_of longest whole bytes = (cut bytes).0 ++ last_line longest whole (cut bytes).1

-- whether the recording is shorter than what is looked at
abbrev pub is_whole : List ℕ → Bool
is_whole recording = nat_lt (length recording) most_bytes

-- the lines of what is left of a recording, of which so many bytes may still be looked at
abbrev pub lines_left : ℕ → ℕ → List ℕ → List (List ℕ)
lines_left longest budget bytes = lines_of longest (nat_lt (length bytes) budget) (take budget bytes)

-- the lines of a recording, whose lines may have `longest_line` bytes
abbrev pub recorded_lines : List ℕ → List (List ℕ)
recorded_lines recording = lines_left longest_line most_bytes recording

-- a space, a tab or a return
abbrev pub is_blank_byte : ℕ → Bool
is_blank_byte c = (c == 32) || (c == 9) || (c == 13)

abbrev pub is_blank : List ℕ → Bool
is_blank line = list_all is_blank_byte line
