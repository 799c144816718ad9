-- What a reader of lines holds, beside what was to come when the call began.
use Rattle.std.specs.Prelude.{if◌then◌else◌}
use Rattle.std.proofs.Common.{◌≡◌, ℕ, suc, ◌<◌, ◌≤◌, ◌+◌, true, false, List, [], ◌∷◌, ◌++◌, Option, None, Some, IfSome, length, nat_lt, ap, sym, subst, ◌∙◌, append_assoc, append-nil, length-append, arith}
use Rattle.std.specs.Io.KnownBytes.{Consumes, Keeps, IsAtEnd, prepend_known}
use Rattle.std.proofs.lemmas.Bool.{lt-ltb}
use Rattle.std.proofs.KnownBytes.{Consumes-nil, Consumes-trans, Consumes-kept, prepend_known-nil}
use Rattle.recording_lines.specs.Lines.{lines_left, newline, has_newline}
use Rattle.recording_lines.specs.Reading.{Reading, held, budget, to_come, LosesLine, BeginsTooLong, TakesUnread}
use Rattle.recording_lines.proofs.LinesLemmas.{lines_left-line, whole-line, lines_left-long, lines_left-used, lines_left-last, lines_left-nil}

-- ---- what a reader holds

pub held-open : (r : Reading) → r.is_open ≡ true → held r ≡ r.line ++ r.buffered
held-open r is = ap (λ b. (if b then r.line else []) ++ r.buffered) is

pub held-closed : (r : Reading) → r.is_open ≡ false → held r ≡ r.buffered
held-closed r is = ap (λ b. (if b then r.line else []) ++ r.buffered) is

-- ---- what was to come, where it is told; a line may have `longest` bytes, so many bytes of what was to come might be looked
-- at, and now it is what is held and what the source has left

-- it begins with a line
pub loses_line : (longest : ℕ) (told : Option (List ℕ)) (most : ℕ) (held line rest : List ℕ) (unread : ℕ) (left : Option (List ℕ))
    → Keeps told (prepend_known held left) → length held + unread ≡ most → held ≡ line ++ newline ∷ rest → has_newline line ≡ false
    → LosesLine longest most told (length rest + unread) (prepend_known rest left) line
loses_line longest None most held line rest unread left keeps budget is plain = tt
loses_line longest (Some bytes) most held line rest unread None keeps budget is plain = absurd keeps
loses_line longest (Some bytes) most held line rest unread (Some more) keeps budget is plain =
    let all : line ++ newline ∷ (rest ++ more) ≡ bytes = sym (append_assoc line (newline ∷ rest) more) ∙ ap (λ h. h ++ more) (sym is) ∙ keeps in
    let size : length line + suc (length rest + unread) ≡ most = omega (arith, ap length is, length-append line (newline ∷ rest), budget) in (
      (λ i. lines_left longest (sym size i) (sym all i)) ∙ lines_left-line longest line (rest ++ more) (length rest + unread) plain,
      (λ i. nat_lt (length (sym all i)) (sym size i)) ∙ whole-line line (rest ++ more) (length rest + unread),
    )

-- it begins with a line that is too long
pub begins_too_long : (longest : ℕ) (told : Option (List ℕ)) (most : ℕ) (held front rest : List ℕ) (unread : ℕ) (left : Option (List ℕ))
    → Keeps told (prepend_known held left) → length held + unread ≡ most → held ≡ front ++ rest → has_newline front ≡ false → longest < length front
    → IfSome told (λ bytes. BeginsTooLong longest (lines_left longest most bytes))
begins_too_long longest None most held front rest unread left keeps budget is plain long = tt
begins_too_long longest (Some bytes) most held front rest unread None keeps budget is plain long = absurd keeps
begins_too_long longest (Some bytes) most held front rest unread (Some more) keeps budget is plain long =
    let all : front ++ (rest ++ more) ≡ bytes = sym (append_assoc front rest more) ∙ ap (λ h. h ++ more) (sym is) ∙ keeps in
    let size : length front + (length rest + unread) ≡ most = omega (arith, ap length is, length-append front rest, budget) in
    subst (BeginsTooLong longest) (λ i. lines_left longest (size i) (all i)) (lines_left-long longest front (rest ++ more) (length rest + unread) plain long)

-- all that may be looked at is held, and is no line
pub ends_used : (longest : ℕ) (told : Option (List ℕ)) (most : ℕ) (held : List ℕ) (unread : ℕ) (left : Option (List ℕ))
    → Keeps told (prepend_known held left) → length held + unread ≡ most → unread ≡ 0 → has_newline held ≡ false → length held ≤ longest
    → IfSome told (λ bytes. (lines_left longest most bytes ≡ []) × (false ≡ nat_lt (length bytes) most))
ends_used longest None most held unread left keeps budget used plain short = tt
ends_used longest (Some bytes) most held unread None keeps budget used plain short = absurd keeps
ends_used longest (Some bytes) most held unread (Some more) keeps budget used plain short =
    let size : length held ≡ most = omega (arith, budget, used) in
    let used_up = lines_left-used longest held more plain short in (
      (λ i. lines_left longest (sym size i) (sym keeps i)) ∙ used_up.0,
      sym ((λ i. nat_lt (length (sym keeps i)) (sym size i)) ∙ used_up.1),
    )

-- the source ended, and what is held is the last line
pub loses_last : (longest : ℕ) (told : Option (List ℕ)) (most : ℕ) (held : List ℕ) (unread : ℕ) (left : Option (List ℕ))
    → Keeps told (prepend_known held left) → length held + unread ≡ most → IsAtEnd left → 0 < unread → has_newline held ≡ false → 0 < length held
    → LosesLine longest most told unread (prepend_known [] left) held
loses_last longest None most held unread left keeps budget ended more plain some = tt
loses_last longest (Some bytes) most held unread None keeps budget ended more plain some = absurd keeps
loses_last longest (Some bytes) most held unread (Some rest) keeps budget ended more plain some =
    let all : held ≡ bytes = sym (append-nil held) ∙ ap (λ r. held ++ r) (sym ended) ∙ keeps in
    let last = lines_left-last longest held unread plain some more in (
      (λ i. lines_left longest (sym budget i) (sym all i)) ∙ last.0 ∙ ap (λ ls. held ∷ ls) (sym (ap (lines_left longest unread) ended ∙ lines_left-nil longest unread)),
      (λ i. nat_lt (length (sym all i)) (sym budget i)) ∙ last.1 ∙ sym (lt-ltb (length rest) unread (omega (arith, ap length ended, more))),
    )

-- the source ended, and nothing is held
pub ends_whole : (longest : ℕ) (told : Option (List ℕ)) (most : ℕ) (held : List ℕ) (unread : ℕ) (left : Option (List ℕ))
    → Keeps told (prepend_known held left) → length held + unread ≡ most → IsAtEnd left → 0 < unread → held ≡ []
    → IfSome told (λ bytes. (lines_left longest most bytes ≡ []) × (true ≡ nat_lt (length bytes) most))
ends_whole longest None most held unread left keeps budget ended more none = tt
ends_whole longest (Some bytes) most held unread None keeps budget ended more none = absurd keeps
ends_whole longest (Some bytes) most held unread (Some rest) keeps budget ended more none =
    let all : bytes ≡ [] = sym keeps ∙ (λ i. none i ++ ended i) in
    (ap (lines_left longest most) all ∙ lines_left-nil longest most, sym (lt-ltb (length bytes) most (omega (arith, ap length all, budget, more))))

-- a piece was read behind what is held
pub Keeps-read : (told : Option (List ℕ)) (held piece : List ℕ) (left rest : Option (List ℕ))
    → Keeps told (prepend_known held left) → Consumes left rest piece → Keeps told (prepend_known (held ++ piece) rest)
Keeps-read None held piece left rest keeps read = tt
Keeps-read (Some bytes) held piece None rest keeps read = absurd keeps
Keeps-read (Some bytes) held piece (Some more) None keeps read = absurd read
Keeps-read (Some bytes) held piece (Some more) (Some rest) keeps read = append_assoc held piece rest ∙ ap (λ r. held ++ r) (sym read) ∙ keeps

-- a read failed
pub Keeps-failed : (told : Option (List ℕ)) (held : List ℕ) (left rest : Option (List ℕ))
    → Keeps told (prepend_known held left) → Keeps left rest → Keeps told (prepend_known held rest)
Keeps-failed None held left rest keeps kept = tt
Keeps-failed (Some bytes) held None rest keeps kept = absurd keeps
Keeps-failed (Some bytes) held (Some more) None keeps kept = absurd kept
Keeps-failed (Some bytes) held (Some more) (Some rest) keeps kept = ap (λ r. held ++ r) kept ∙ keeps

-- ---- what is gone from a source

pub TakesUnread-nil : (unread : ℕ) (left : Option (List ℕ)) → TakesUnread unread unread left left
TakesUnread-nil unread left = ([], omega arith, Consumes-nil left)

pub TakesUnread-trans : (a b c : ℕ) (x y z : Option (List ℕ)) → TakesUnread a b x y → TakesUnread b c y z → TakesUnread a c x z
TakesUnread-trans a b c x y z first second =
    (first.0 ++ second.0, omega (arith, length-append first.0 second.0, first.1, second.1), Consumes-trans x y z first.0 second.0 first.2 second.2)

pub TakesUnread-kept : (a b : ℕ) (x y z : Option (List ℕ)) → TakesUnread a b x y → Keeps y z → TakesUnread a b x z
TakesUnread-kept a b x y z taken kept = (taken.0, taken.1, Consumes-kept x y z taken.0 taken.2 kept)

-- ---- a reader that holds nothing, as a new one

pub to_come-empty : (r : Reading) (left : Option (List ℕ)) → held r ≡ [] → to_come r left ≡ left
to_come-empty r left none = ap (λ h. prepend_known h left) none ∙ prepend_known-nil left

pub budget-empty : (r : Reading) → held r ≡ [] → budget r ≡ r.unread
budget-empty r none = omega (arith, ap length none)
