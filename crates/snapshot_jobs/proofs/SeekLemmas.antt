-- The lines that are passed by where a line is sought.
use Rattle.std.proofs.Common.{◌≡◌, ℕ, ◌+◌, ◌<◌, ◌≤◌, nat_le, nat_lt, List, [], ◌∷◌, length, Bool, true, false, ◌&&◌, cond, Option, Some, None, IfSome, refl, sym, ap, subst, ◌∙◌, arith}
use Rattle.std.specs.Prelude.{⊤}
use Rattle.std.proofs.lemmas.Bool.Decides.{nat_tests}
use Rattle.recording_lines.specs.Lines.{lines_left, is_blank}
use Rattle.recording_lines.specs.Reading.{LosesLine, BeginsTooLong}
use Rattle.snapshot_jobs.specs.Seeking.{First, found, nothing, is_passed, first_line, IsFirst, Seeks}
use Rattle.snapshot_jobs.specs.declared.seek.Sought.TheVariants as code

-- the first line of what was to come is that of what is to come now, and that is whole exactly where it was
abbrev pub Passed : ℕ → ℕ → ℕ → ℕ → Option (List ℕ) → ℕ → ℕ → Option (List ℕ) → Type 0
Passed longest most at before None here budget come = ⊤
Passed longest most at before (Some old) here budget None = ⊥
Passed longest most at before (Some old) here budget (Some come) =
    (first_line longest at (lines_left most before old) ≡ first_line longest here (lines_left most budget come)) × (nat_lt (length old) before ≡ nat_lt (length come) budget)

-- at first
pub passed_nothing : (longest most at before : ℕ) (come : Option (List ℕ)) → Passed longest most at before come at before come
passed_nothing longest most at before None = tt
passed_nothing longest most at before (Some come) = (refl, refl)

module _ (longest most at before here budget after : ℕ) where
  -- a line is passed by
  pub passed_on : (old come new : Option (List ℕ)) (line : List ℕ) → Passed longest most at before old here budget come → LosesLine most budget come after new line
      → is_passed longest line ≡ true → Passed longest most at before old (here + 1) after new
  passed_on None come new line passed loses is = tt
  passed_on (Some old) None new line passed loses is = absurd passed
  passed_on (Some old) (Some come) None line passed loses is = absurd loses
  passed_on (Some old) (Some come) (Some new) line passed loses is = (
    passed.0 ∙ ap (first_line longest here) loses.0 ∙ ap (λ b. cond b (first_line longest (here + 1) (lines_left most after new)) (found here line (lines_left most after new))) is,
    passed.1 ∙ loses.1,
  )

  -- a line is found
  pub finds_line : (old come new : Option (List ℕ)) (line : List ℕ) → Passed longest most at before old here budget come → LosesLine most budget come after new line
      → is_passed longest line ≡ false → Seeks longest most at before old after new line (code.Line here)
  finds_line None come new line passed loses is = tt
  finds_line (Some old) None new line passed loses is = absurd passed
  finds_line (Some old) (Some come) None line passed loses is = absurd loses
  finds_line (Some old) (Some come) (Some new) line passed loses is = (
    passed.0 ∙ ap (first_line longest here) loses.0 ∙ ap (λ b. cond b (first_line longest (here + 1) (lines_left most after new)) (found here line (lines_left most after new))) is,
    passed.1 ∙ loses.1,
  )

  too_long : (line : List ℕ) → longest ≤ most → most < length line → is_passed longest line ≡ false
  too_long line wide long = let past : nat_le (length line) longest ≡ false = grind (arith, nat_tests, wide, long) in ap (λ b. b && is_blank line) past

  finds_in : (lines : List (List ℕ)) (first : First) (whole : Bool) (new : Option (List ℕ)) (line : List ℕ) → longest ≤ most → BeginsTooLong most lines → first ≡ first_line longest here lines
      → IsFirst most first whole after new line (code.TooLong here)
  finds_in [] first whole new line wide long is = absurd long
  finds_in (l ∷ lines) first whole None line wide long is =
      (l, lines, is ∙ ap (λ b. cond b (first_line longest (here + 1) lines) (found here l lines)) (too_long l wide long), long)
  finds_in (l ∷ lines) first whole (Some new) line wide long is =
      (l, lines, is ∙ ap (λ b. cond b (first_line longest (here + 1) lines) (found here l lines)) (too_long l wide long), long)

  -- a line is too long
  pub finds_too_long : (old come new : Option (List ℕ)) (line : List ℕ) → Passed longest most at before old here budget come → longest ≤ most
      → IfSome come (λ bytes. BeginsTooLong most (lines_left most budget bytes)) → Seeks longest most at before old after new line (code.TooLong here)
  finds_too_long None come new line passed wide long = tt
  finds_too_long (Some old) None new line passed wide long = absurd passed
  finds_too_long (Some old) (Some come) new line passed wide long =
      finds_in (lines_left most budget come) (first_line longest at (lines_left most before old)) (nat_lt (length old) before) new line wide long passed.0

  ends_in : (lines : List (List ℕ)) (first : First) (whole ends : Bool) (new : Option (List ℕ)) (line : List ℕ) → lines ≡ [] → first ≡ first_line longest here lines → ends ≡ whole
      → IsFirst most first whole after new line (code.End here ends)
  ends_in lines first whole ends None line none is same = (is ∙ ap (first_line longest here) none, same)
  ends_in lines first whole ends (Some new) line none is same = (is ∙ ap (first_line longest here) none, same)

  -- no line is left
  pub finds_nothing : (old come new : Option (List ℕ)) (line : List ℕ) (whole : Bool) → Passed longest most at before old here budget come
      → IfSome come (λ bytes. (lines_left most budget bytes ≡ []) × (whole ≡ nat_lt (length bytes) budget)) → Seeks longest most at before old after new line (code.End here whole)
  finds_nothing None come new line whole passed none = tt
  finds_nothing (Some old) None new line whole passed none = absurd passed
  finds_nothing (Some old) (Some come) new line whole passed none =
      ends_in (lines_left most budget come) (first_line longest at (lines_left most before old)) (nat_lt (length old) before) whole new line none.0 passed.0 (none.1 ∙ sym passed.1)
