-- The text of lines that are printed one after the other.
use Rattle.std.proofs.Common.{◌≡◌, ℕ, ◌<◌, ◌+◌, List, [], ◌∷◌, ◌++◌, length, get_or, take, sym, ap, refl, ◌∙◌, append_assoc, append-nil}
use Rattle.std.proofs.lemmas.List.{take_more}
use Rattle.room_join.specs.Lines.{line_fields, fields_text, written_line}
use Rattle.room_join.specs.declared.join_line.JoinLine.{JoinLine}
use Rattle.join_job.specs.Texts.{lines_text}

-- the text of lines and then others
lines_text-append : (xs ys : List JoinLine) → lines_text (xs ++ ys) ≡ lines_text xs ++ lines_text ys
lines_text-append [] ys = refl
lines_text-append (x ∷ xs) ys =
    ap (λ t. written_line (fields_text (line_fields x)) ++ t) (lines_text-append xs ys) ∙ sym (append_assoc (written_line (fields_text (line_fields x))) (lines_text xs) (lines_text ys))

-- the text of one line more
pub text_more : (lines : List JoinLine) (i : ℕ) (x : JoinLine) → i < length lines → x ≡ get_or lines i x
    → lines_text (take (i + 1) lines) ≡ lines_text (take i lines) ++ written_line (fields_text (line_fields x))
text_more lines i x within is =
    let here = get_or lines i x in
    ap lines_text (take_more lines i x within) ∙ lines_text-append (take i lines) (here ∷ [])
    ∙ ap (λ t. lines_text (take i lines) ++ t) (append-nil (written_line (fields_text (line_fields here))) ∙ ap (λ y. written_line (fields_text (line_fields y))) (sym is))
