-- What a reader of lines gathers of the bytes in its buffer.
use Rattle.std.proofs.Common.{◌≡◌, ℕ, ◌<◌, ◌≤◌, ◌+◌, ◌-◌, Bool, true, false, List, [], ◌∷◌, ◌++◌, length, take, drop, ap, sym, ◌∙◌, append_assoc, append-nil, length-append, arith}
use Rattle.std.proofs.lemmas.List.{drop-take, drop-drop}
use Rattle.std.proofs.Math.Seq.{drop-append_seam}
use Rattle.recording_lines.specs.Lines.{newline, has_newline, IsFirstPiece}
use Rattle.recording_lines.specs.Reading.{Reading, held}
use Rattle.recording_lines.specs.Gathering.{HoldsTooLong}
use Rattle.recording_lines.proofs.LinesLemmas.{has_newline-append}
use Rattle.recording_lines.proofs.ReadingLemmas.{held-open}

-- a reader that gathers holds its line and what is buffered
pub held-view : (view now : Reading) → view ≡ now → now.is_open ≡ true → held now ≡ view.line ++ view.buffered
held-view view now is opened = ap held (sym is) ∙ held-open view (ap (λ r. r.is_open) is ∙ opened)

-- what is buffered, as a part of the buffer
pub buffered-slice : (items slice : List ℕ) (start end : ℕ) → slice ≡ items → start ≤ end → drop start (take end items) ≡ take (end - start) (drop start slice)
buffered-slice items slice start end same ordered =
    let sum : end ≡ start + (end - start) = omega arith in
    ap (λ n. drop start (take n items)) sum ∙ drop-take start (end - start) items ∙ ap (λ l. take (end - start) (drop start l)) (sym same)

pub IsFirstPiece-plain : (bytes piece : List ℕ) (is_whole : Bool) → IsFirstPiece bytes piece is_whole → has_newline piece ≡ false
IsFirstPiece-plain bytes piece true first = first.0
IsFirstPiece-plain bytes piece false first = first.0

-- what follows the first piece, its newline too
pub IsFirstPiece-rest : (bytes piece : List ℕ) (is_whole : Bool) → IsFirstPiece bytes piece is_whole → (rest : List ℕ) × (bytes ≡ piece ++ rest)
IsFirstPiece-rest bytes piece true first = (newline ∷ first.1.0, first.1.1)
IsFirstPiece-rest bytes piece false first = ([], first.1 ∙ sym (append-nil piece))

pub holds_too_long : (now : Reading) (line bytes piece : List ℕ) (is_whole : Bool) → held now ≡ line ++ bytes → has_newline line ≡ false → IsFirstPiece bytes piece is_whole
    → now.longest < length line + length piece → HoldsTooLong now
holds_too_long now line bytes piece is_whole holds plain first long =
    let rest = IsFirstPiece-rest bytes piece is_whole first in (
      line ++ piece,
      rest.0,
      holds ∙ ap (λ b. line ++ b) rest.1 ∙ sym (append_assoc line piece rest.0),
      has_newline-append line piece plain (IsFirstPiece-plain bytes piece is_whole first),
      omega (arith, length-append line piece, long),
    )

-- the buffer once a piece is taken from it
pub buffered-taken : (items piece rest : List ℕ) (start end : ℕ) → drop start (take end items) ≡ piece ++ rest → drop (start + length piece) (take end items) ≡ rest
buffered-taken items piece rest start end is = sym (drop-drop (length piece) start (take end items)) ∙ ap (drop (length piece)) is ∙ drop-append_seam piece rest

-- and its newline
pub buffered-passed : (items piece rest : List ℕ) (start end : ℕ) → drop start (take end items) ≡ piece ++ newline ∷ rest → drop (start + length piece + 1) (take end items) ≡ rest
buffered-passed items piece rest start end is = sym (drop-drop 1 (start + length piece) (take end items)) ∙ ap (drop 1) (buffered-taken items piece (newline ∷ rest) start end is)
