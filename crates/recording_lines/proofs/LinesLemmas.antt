-- Bytes as lines.
use Rattle.std.specs.Prelude.{if◌then◌else◌}
use Rattle.std.proofs.Common.{◌≡◌, ℕ, suc, ◌<◌, ◌≤◌, ◌==◌, ◌+◌, ◌&&◌, ◌||◌, Bool, true, false, List, [], ◌∷◌, ◌++◌, length, take, drop, Some, None, nat_lt, refl, ap, sym, subst, ◌∙◌, cond, length-append, take_all, arith}
use Rattle.std.specs.List.{position, position_from}
use Rattle.std.proofs.lemmas.List.Folds.{list_any-append}
use Rattle.std.proofs.lemmas.Iterator.Adapters.{position_from-zero}
use Rattle.std.proofs.lemmas.Bool.{ltb-true, lt-ltb, eqb-true}
use Rattle.std.proofs.Math.Bool.{or-true, and-false}
use Rattle.std.proofs.lemmas.Bool.Decides.{nat_tests}
use Rattle.std.proofs.Math.Seq.{take-append-add, take-append_seam}
use Rattle.recording_lines.specs.Lines.{cut, with_front, lines_of, lines_left, last_line, is_last_line, newline, has_newline, IsFirstPiece}
use Rattle.recording_lines.specs.Reading.{BeginsTooLong}

-- neither is true where one or the other isn't
neither : (a b : Bool) → (a || b) ≡ false → (a ≡ false) × (b ≡ false)
neither true b none = absurd (cc)
neither false b none = (refl, none)

-- what is not greater is no test's truth
not_below : (m n : ℕ) → n ≤ m → nat_lt m n ≡ false
not_below m n above = grind (arith, nat_tests)

nat_lt-add : (k m n : ℕ) → nat_lt (k + m) (k + n) ≡ nat_lt m n
nat_lt-add k m n = elim (nat_lt m n) as (λ b. nat_lt m n ≡ b → nat_lt (k + m) (k + n) ≡ b) [
  | true ↦ λ t. let below : m < n = ltb-true m n t in lt-ltb (k + m) (k + n) (omega arith)
  | false ↦ λ t. let above : n ≤ m = grind (arith, nat_tests, t) in not_below (k + m) (k + n) (omega arith)
] refl

-- a first line
cut-line : (line rest : List ℕ) → has_newline line ≡ false → cut (line ++ newline ∷ rest) ≡ (line ∷ (cut rest).0, (cut rest).1)
cut-line [] rest plain = refl
cut-line (c ∷ cs) rest plain =
    let parts = neither (c == newline) (has_newline cs) plain in
    rw (parts.0, cut-line cs rest parts.1) refl

-- no whole line
cut-plain : (piece : List ℕ) → has_newline piece ≡ false → cut piece ≡ ([], piece)
cut-plain [] plain = refl
cut-plain (c ∷ cs) plain =
    let parts = neither (c == newline) (has_newline cs) plain in
    rw (parts.0, cut-plain cs parts.1) refl

-- the first line, or else what follows the last, has so many bytes
abbrev Reaches : ℕ → List (List ℕ) → List ℕ → Type 0
Reaches n [] rest = n ≤ length rest
Reaches n (line ∷ lines) rest = n ≤ length line

with_front-Reaches : (c n : ℕ) (lines : List (List ℕ)) (rest : List ℕ) → Reaches n lines rest → Reaches (suc n) (with_front c lines rest).0 (with_front c lines rest).1
with_front-Reaches c n [] rest reaches = omega arith
with_front-Reaches c n (line ∷ lines) rest reaches = omega arith

zero-Reaches : (lines : List (List ℕ)) (rest : List ℕ) → Reaches 0 lines rest
zero-Reaches [] rest = omega arith
zero-Reaches (line ∷ lines) rest = omega arith

cut-Reaches : (piece rest : List ℕ) → has_newline piece ≡ false → Reaches (length piece) (cut (piece ++ rest)).0 (cut (piece ++ rest)).1
cut-Reaches [] rest plain = zero-Reaches (cut rest).0 (cut rest).1
cut-Reaches (c ∷ cs) rest plain =
    let parts = neither (c == newline) (has_newline cs) plain in
    rw parts.0 (with_front-Reaches c (length cs) (cut (cs ++ rest)).0 (cut (cs ++ rest)).1 (cut-Reaches cs rest parts.1))

last_line-long : (longest : ℕ) (whole : Bool) (piece : List ℕ) → longest < length piece → last_line longest whole piece ≡ piece ∷ []
last_line-long longest whole piece long =
    let some : nat_lt 0 (length piece) ≡ true = lt-ltb 0 (length piece) (omega arith) in
    let past : nat_lt longest (length piece) ≡ true = lt-ltb longest (length piece) long in
    let test : is_last_line longest whole piece ≡ true = (λ i. some i && (whole || past i)) ∙ or-true whole in
    ap (λ b. if b then piece ∷ [] else []) test

BeginsTooLong-Reaches : (longest : ℕ) (whole : Bool) (n : ℕ) (lines : List (List ℕ)) (rest : List ℕ) → longest < n → Reaches n lines rest → BeginsTooLong longest (lines ++ last_line longest whole rest)
BeginsTooLong-Reaches longest whole n [] rest long reaches =
    let past : longest < length rest = omega arith in
    subst (BeginsTooLong longest) (sym (last_line-long longest whole rest past)) past
BeginsTooLong-Reaches longest whole n (line ∷ lines) rest long reaches = omega arith

-- ---- what is left of a recording

nat_lt-shifted : (k m n m' n' : ℕ) → m' ≡ k + m → n' ≡ k + n → nat_lt m' n' ≡ nat_lt m n
nat_lt-shifted k m n m' n' e f = (λ i. nat_lt (e i) (f i)) ∙ nat_lt-add k m n

-- what follows a line is whole exactly where the line with it was
pub whole-line : (line rest : List ℕ) (b : ℕ) → nat_lt (length (line ++ newline ∷ rest)) (length line + suc b) ≡ nat_lt (length rest) b
whole-line line rest b = nat_lt-shifted (length line + 1) (length rest) b _ _ (omega (arith, length-append line (newline ∷ rest))) (omega arith)

-- a line is the first, and the others are the lines of what follows it
pub lines_left-line : (longest : ℕ) (line rest : List ℕ) (b : ℕ) → has_newline line ≡ false
    → lines_left longest (length line + suc b) (line ++ newline ∷ rest) ≡ line ∷ lines_left longest b rest
lines_left-line longest line rest b plain =
    (λ i. lines_of longest (whole-line line rest b i) (take-append-add line (newline ∷ rest) (suc b) i))
    ∙ ap (λ p. p.0 ++ last_line longest (nat_lt (length rest) b) p.1) (cut-line line (take b rest) plain)

-- a piece without newline that is longer than a line may be begins a line that is too long
pub lines_left-long : (longest : ℕ) (piece rest : List ℕ) (b : ℕ) → has_newline piece ≡ false → longest < length piece
    → BeginsTooLong longest (lines_left longest (length piece + b) (piece ++ rest))
lines_left-long longest piece rest b plain long =
    let whole = nat_lt (length (piece ++ rest)) (length piece + b) in
    subst (λ bytes. BeginsTooLong longest (lines_of longest whole bytes)) (sym (take-append-add piece rest b))
    (BeginsTooLong-Reaches longest whole (length piece) (cut (piece ++ take b rest)).0 (cut (piece ++ take b rest)).1 long (cut-Reaches piece (take b rest) plain))

-- a piece without newline of which all was looked at, and which is no line yet
pub lines_left-used : (longest : ℕ) (piece rest : List ℕ) → has_newline piece ≡ false → length piece ≤ longest
    → (lines_left longest (length piece) (piece ++ rest) ≡ []) × (nat_lt (length (piece ++ rest)) (length piece) ≡ false)
lines_left-used longest piece rest plain short =
    let past : nat_lt (length (piece ++ rest)) (length piece) ≡ false = not_below _ _ (omega (arith, length-append piece rest)) in
    let within : nat_lt longest (length piece) ≡ false = not_below longest (length piece) short in
    let test : is_last_line longest false piece ≡ false = ap (λ b. nat_lt 0 (length piece) && b) within ∙ and-false (nat_lt 0 (length piece)) in (
      (λ i. lines_of longest (past i) (take-append_seam piece rest i))
          ∙ ap (λ p. p.0 ++ last_line longest false p.1) (cut-plain piece plain)
          ∙ ap (λ b. if b then piece ∷ [] else []) test,
      past,
    )

-- a last piece without newline that has a byte, of a recording that is whole
pub lines_left-last : (longest : ℕ) (piece : List ℕ) (b : ℕ) → has_newline piece ≡ false → 0 < length piece → 0 < b
    → (lines_left longest (length piece + b) piece ≡ piece ∷ []) × (nat_lt (length piece) (length piece + b) ≡ true)
lines_left-last longest piece b plain some more =
    let whole : nat_lt (length piece) (length piece + b) ≡ true = lt-ltb _ _ (omega arith) in
    let test : is_last_line longest true piece ≡ true = ap (λ t. t && true) (lt-ltb 0 (length piece) some) in (
      (λ i. lines_of longest (whole i) (take_all (length piece + b) piece (omega arith) i))
          ∙ ap (λ p. p.0 ++ last_line longest true p.1) (cut-plain piece plain)
          ∙ ap (λ t. if t then piece ∷ [] else []) test,
      whole,
    )

-- nothing has no line
pub lines_left-nil : (longest b : ℕ) → lines_left longest b [] ≡ []
lines_left-nil longest b = ap (lines_of longest (nat_lt 0 b)) (take_all b [] (omega arith))

-- ---- where the first newline stands

record IsFirst (start : ℕ) (bytes : List ℕ) (at : ℕ) : Type 0 where
  pub before : ℕ
  pub is : at ≡ start + before
  pub within : before < length bytes
  pub around : bytes ≡ take before bytes ++ newline ∷ drop (suc before) bytes
  pub plain : has_newline (take before bytes) ≡ false

IsFirst-cons : (start c : ℕ) (cs : List ℕ) (at : ℕ) → (c == newline) ≡ false → IsFirst (start + 1) cs at → IsFirst start (c ∷ cs) at
IsFirst-cons start c cs at other first = record {
  before = suc first.before;
  is = omega (arith, first.is);
  within = omega (arith, first.within);
  around = ap (λ l. c ∷ l) first.around;
  plain = (λ i. other i || first.plain i);
}

IsFirst-position : (start : ℕ) (bytes : List ℕ) (at : ℕ) → position_from (λ c. c == newline) start bytes ≡ Some at → IsFirst start bytes at
IsFirst-position start [] at found = absurd (cc)
IsFirst-position start (c ∷ cs) at found = elim (c == newline) as (λ b. (c == newline) ≡ b → cond b (Some start) (position_from (λ d. d == newline) (start + 1) cs) ≡ Some at → IsFirst start (c ∷ cs) at) [
  | true ↦ λ t f. record {
    before = 0;
    is = let same : start ≡ at = (cc) in omega (arith, same);
    within = omega arith;
    around = ap (λ n. n ∷ cs) (eqb-true c newline t);
    plain = refl;
  }
  | false ↦ λ t f. IsFirst-cons start c cs at t (IsFirst-position (start + 1) cs at f)
] refl found

has_newline-position : (start : ℕ) (bytes : List ℕ) → position_from (λ c. c == newline) start bytes ≡ None → has_newline bytes ≡ false
has_newline-position start [] none = refl
has_newline-position start (c ∷ cs) none = elim (c == newline) as (λ b. cond b (Some start) (position_from (λ d. d == newline) (start + 1) cs) ≡ None → (b || has_newline cs) ≡ false) [
  | true ↦ λ f. absurd (cc)
  | false ↦ λ f. has_newline-position (start + 1) cs f
] none

-- ---- pieces

pub IsFirstPiece-Some : (bytes : List ℕ) (at : ℕ) → position (λ c. c == newline) bytes ≡ Some at → IsFirstPiece bytes (take at bytes) true
IsFirstPiece-Some bytes at found =
    let first = IsFirst-position 0 bytes at (sym (position_from-zero (λ c. c == newline) bytes) ∙ found) in
    let same : first.before ≡ at = omega (arith, first.is) in
    subst (λ n. IsFirstPiece bytes (take n bytes) true) same (first.plain, (drop (suc first.before) bytes, first.around))

pub IsFirstPiece-None : (bytes : List ℕ) → position (λ c. c == newline) bytes ≡ None → IsFirstPiece bytes bytes false
IsFirstPiece-None bytes none = (has_newline-position 0 bytes (sym (position_from-zero (λ c. c == newline) bytes) ∙ none), refl)

pub has_newline-append : (a b : List ℕ) → has_newline a ≡ false → has_newline b ≡ false → has_newline (a ++ b) ≡ false
has_newline-append a b p q = list_any-append (λ c. c == newline) a b ∙ (λ i. p i || q i)
