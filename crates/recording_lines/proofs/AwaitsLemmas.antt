-- A reader of lines in the midst of a call, and what the steps of the call make of it.
use Rattle.std.proofs.Common.{◌≡◌, ℕ, ◌<◌, ◌≤◌, ◌+◌, true, false, List, [], ◌++◌, Option, IfSome, Ok, length, nat_lt, ap, sym, subst, ◌∙◌, append-nil, length-append, arith}
use Rattle.std.specs.Io.KnownBytes.{Keeps, IsAtEnd, prepend_known}
use Rattle.std.proofs.KnownBytes.{Keeps-refl}
use Rattle.recording_lines.specs.Lines.{lines_left, has_newline}
use Rattle.recording_lines.specs.Reading.{Reading, held, gathered, budget, to_come, LosesLine, BeginsTooLong, TakesUnread}
use Rattle.recording_lines.specs.Gathering.{Gathers, Fills, Closes}
use Rattle.recording_lines.specs.Answers.{OnLine}
use Rattle.recording_lines.specs.declared.line_reader.Gathered.TheVariants as piece
use Rattle.recording_lines.specs.declared.line_reader.Next.{Next}
use Rattle.recording_lines.specs.declared.line_reader.Next.TheVariants as next
use Rattle.recording_lines.proofs.ReadingLemmas.{held-open, held-closed, loses_line, begins_too_long, ends_used, loses_last, ends_whole, Keeps-read, TakesUnread-trans}

-- a line of so many bytes at most is being gathered, and nothing is lost of what was to come when the call began
pub record Awaits (longest : ℕ) (told : Option (List ℕ)) (most : ℕ) (r : Reading) (left : Option (List ℕ)) : Type 0 where
  pub gathers : r.is_open ≡ true
  pub kept : Keeps told (to_come r left)
  pub kept_budget : budget r ≡ most
  pub kept_longest : r.longest ≡ longest

-- the call begins
pub Awaits-opened : (r new : Reading) (left : Option (List ℕ)) → new ≡ record r { line = gathered r; is_open = true } → Awaits r.longest (to_come r left) (budget r) new left
Awaits-opened r new left is =
    let same : held new ≡ held r = ap held is in record {
      gathers = ap (λ (v : Reading). v.is_open) is;
      kept = subst (λ h. Keeps (to_come r left) (prepend_known h left)) (sym same) (Keeps-refl (to_come r left));
      kept_budget = (λ i. length (same i) + (is i).unread);
      kept_longest = ap (λ (v : Reading). v.longest) is;
    }

module _ (longest : ℕ) (told : Option (List ℕ)) (most : ℕ) (r new : Reading) (left : Option (List ℕ)) (awaits : Awaits longest told most r left) where
  -- a line was gathered
  pub loses_gathered : Gathers piece.Whole r new → LosesLine longest most told (budget new) (to_come new left) new.line
  loses_gathered g =
      let size : length (held r) + new.unread ≡ most = omega (arith, awaits.kept_budget, g.4) in
      subst (λ h. LosesLine longest most told (length h + new.unread) (prepend_known h left) new.line) (sym (held-closed new g.3))
      (loses_line longest told most (held r) new.line new.buffered new.unread left awaits.kept size g.0 g.1)

  -- the line is too long
  pub begins_gathered : Gathers piece.TooLong r new → IfSome told (λ bytes. BeginsTooLong longest (lines_left longest most bytes))
  begins_gathered g = begins_too_long longest told most (held r) g.0.0 g.0.1 r.unread left awaits.kept awaits.kept_budget g.0.2 g.0.3 (omega (arith, g.0.4, awaits.kept_longest))

  -- all that may be looked at was gathered
  pub ends_gathered : Gathers piece.Part r new → new.unread ≡ 0 → IfSome told (λ bytes. (lines_left longest most bytes ≡ []) × (false ≡ nat_lt (length bytes) most))
  ends_gathered g used =
      let none : r.unread ≡ 0 = omega (arith, ap (λ (v : Reading). v.unread) g.0, used) in
      ends_used longest told most (held r) r.unread left awaits.kept awaits.kept_budget none g.1 (omega (arith, g.2, awaits.kept_longest))

  -- what was buffered was gathered, and the line goes on
  pub Awaits-gathered : Gathers piece.Part r new → Awaits longest told most new left
  Awaits-gathered g =
      let same : held new ≡ held r = ap held g.0 ∙ held-open (record r { line = held r; buffered = [] }) awaits.gathers ∙ append-nil (held r) in record {
        gathers = ap (λ (v : Reading). v.is_open) g.0 ∙ awaits.gathers;
        kept = subst (λ h. Keeps told (prepend_known h left)) (sym same) awaits.kept;
        kept_budget = (λ i. length (same i) + (g.0 i).unread) ∙ awaits.kept_budget;
        kept_longest = ap (λ (v : Reading). v.longest) g.0 ∙ awaits.kept_longest;
      }

  -- a piece was read
  pub Awaits-filled : (n : ℕ) (rest : Option (List ℕ)) → r.buffered ≡ [] → Fills n r new left rest → Awaits longest told most new rest
  Awaits-filled n rest empty f =
      let opened : new.is_open ≡ true = ap (λ (v : Reading). v.is_open) f.2 ∙ awaits.gathers in
      let line : held r ≡ r.line = held-open r awaits.gathers ∙ ap (λ b. r.line ++ b) empty ∙ append-nil r.line in
      let same : held new ≡ held r ++ new.buffered = held-open new opened ∙ (λ i. (f.2 i).line ++ new.buffered) ∙ ap (λ l. l ++ new.buffered) (sym line) in record {
        gathers = opened;
        kept = subst (λ h. Keeps told (prepend_known h rest)) (sym same) (Keeps-read told (held r) new.buffered left rest awaits.kept f.3);
        kept_budget = omega (arith, awaits.kept_budget, f.0, f.1, ap (λ (v : Reading). v.unread) f.2, ap length same, length-append (held r) new.buffered);
        kept_longest = ap (λ (v : Reading). v.longest) f.2 ∙ awaits.kept_longest;
      }

  -- the source ended, and what was gathered is the last line
  pub loses_closed : r.buffered ≡ [] → has_newline r.line ≡ false → IsAtEnd left → 0 < r.unread → Closes next.Line r new → LosesLine longest most told (budget new) (to_come new left) new.line
  loses_closed empty plain ended more closed =
      let line : held r ≡ r.line = held-open r awaits.gathers ∙ ap (λ b. r.line ++ b) empty ∙ append-nil r.line in
      let none : held new ≡ [] = ap held closed.1 ∙ empty in
      let unread : new.unread ≡ r.unread = ap (λ (v : Reading). v.unread) closed.1 in
      let given : new.line ≡ held r = ap (λ (v : Reading). v.line) closed.1 ∙ sym line in
      let some : 0 < length (held r) = omega (arith, ap length line, closed.0) in
      let loses : LosesLine longest most told r.unread (prepend_known [] left) (held r) =
      loses_last longest told most (held r) r.unread left awaits.kept awaits.kept_budget ended more (ap has_newline line ∙ plain) some in
      let size : r.unread ≡ budget new = omega (arith, ap length none, unread) in
      subst (λ l. LosesLine longest most told (budget new) (to_come new left) l) (sym given)
      (subst (λ h. LosesLine longest most told (budget new) (prepend_known h left) (held r)) (sym none)
      (subst (λ b. LosesLine longest most told b (prepend_known [] left) (held r)) size loses))

  -- the source ended, and nothing was gathered
  pub ends_closed : r.buffered ≡ [] → IsAtEnd left → 0 < r.unread → r.line ≡ [] → IfSome told (λ bytes. (lines_left longest most bytes ≡ []) × (true ≡ nat_lt (length bytes) most))
  ends_closed empty ended more none =
      let line : held r ≡ [] = held-open r awaits.gathers ∙ (λ i. none i ++ empty i) in
      ends_whole longest told most (held r) r.unread left awaits.kept awaits.kept_budget ended more line

-- what is gone from the source with a piece
pub TakesUnread-filled : (most n : ℕ) (r new : Reading) (old left rest : Option (List ℕ)) → TakesUnread most r.unread old left → Fills n r new left rest → TakesUnread most new.unread old rest
TakesUnread-filled most n r new old left rest taken f =
    let size : length new.buffered + new.unread ≤ r.unread = omega (arith, f.0, f.1, ap (λ (v : Reading). v.unread) f.2) in
    TakesUnread-trans most r.unread new.unread old left rest taken (new.buffered, size, f.3)

pub Closes-unread : (answer : Next) (r new : Reading) → Closes answer r new → new.unread ≡ r.unread
Closes-unread next.Line r new closed = ap (λ (v : Reading). v.unread) closed.1
Closes-unread next.TooLong r new closed = absurd closed
Closes-unread (next.End whole) r new closed = ap (λ (v : Reading). v.unread) closed.2

pub OnLine-Closes : (answer : Next) (r new : Reading) (P : Type 0) → Closes answer r new → (Closes next.Line r new → P) → OnLine (Ok answer) P
OnLine-Closes next.Line r new P closed f = f closed
OnLine-Closes next.TooLong r new P closed f = tt
OnLine-Closes (next.End whole) r new P closed f = tt
