-- The text of lines that are written one after the other.
use Rattle.std.proofs.Common.{◌≡◌, ℕ, ◌<◌, ◌+◌, List, [], ◌∷◌, ◌++◌, length, get_or, take, drop, refl, sym, ap, ◌∙◌, append_assoc, append-nil, take-append-drop}
use Rattle.std.proofs.lemmas.List.{take_more}
use Rattle.rec_format.specs.Printed.{printed_text}
use Rattle.rec_format.specs.declared.printed.PrintedLine.{PrintedLine}
use Rattle.replay_job.specs.Replay.{IsFront}
use Rattle.replay_job.specs.Texts.{lines_text, written_line}

-- the text of lines and then others
pub lines_text-append : (xs ys : List PrintedLine) → lines_text (xs ++ ys) ≡ lines_text xs ++ lines_text ys
lines_text-append [] ys = refl
lines_text-append (x ∷ xs) ys = ap (λ t. written_line (printed_text x) ++ t) (lines_text-append xs ys) ∙ sym (append_assoc (written_line (printed_text x)) (lines_text xs) (lines_text ys))

-- the text of the first lines is a front of the text of all
pub front_of_lines : (n : ℕ) (lines : List PrintedLine) → IsFront (lines_text (take n lines)) (lines_text lines)
front_of_lines n lines = (
  lines_text (drop n lines),
  ap lines_text (sym (take-append-drop n lines)) ∙ lines_text-append (take n lines) (drop n lines),
)

-- the text of one line more
pub text_more : (lines : List PrintedLine) (i : ℕ) (x : PrintedLine) → i < length lines → x ≡ get_or lines i x
    → lines_text (take (i + 1) lines) ≡ lines_text (take i lines) ++ written_line (printed_text x)
text_more lines i x within is =
    let here = get_or lines i x in
    ap lines_text (take_more lines i x within) ∙ lines_text-append (take i lines) (here ∷ [])
    ∙ ap (λ t. lines_text (take i lines) ++ t) (append-nil (written_line (printed_text here)) ∙ ap (λ y. written_line (printed_text y)) (sym is))

-- a front of the next line's text behind the text of those before it
pub front_more : (lines : List PrintedLine) (i : ℕ) (x : PrintedLine) (front : List ℕ) → i < length lines → x ≡ get_or lines i x
    → IsFront front (written_line (printed_text x)) → IsFront (lines_text (take i lines) ++ front) (lines_text lines)
front_more lines i x front within is begins =
    let so_far = lines_text (take i lines) in
    let all = front_of_lines (i + 1) lines in
    let next : lines_text (take (i + 1) lines) ≡ (so_far ++ front) ++ begins.0 =
    text_more lines i x within is ∙ ap (λ t. so_far ++ t) begins.1 ∙ sym (append_assoc so_far front begins.0) in
    (begins.0 ++ all.0, all.1 ∙ ap (λ t. t ++ all.0) next ∙ append_assoc (so_far ++ front) begins.0 all.0)

-- the first bytes of a text are a front of it
pub first_bytes : (n : ℕ) (text : List ℕ) → IsFront (take n text) text
first_bytes n text = (drop n text, sym (take-append-drop n text))
