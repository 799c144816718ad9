-- What a piece says is one thing.
use Rattle.std.proofs.Common.{ℕ, ◌≡◌, suc, ◌+◌, ◌<◌, ◌≤◌, ◌==◌, List, [], ◌∷◌, ◌++◌, length, decimal, get_or, All, ◌%◌, false, refl, sym, ap, subst, ◌∙◌, arith}
use Rattle.std.proofs.lemmas.Bool.Decides.{nat_tests}
use Rattle.std.specs.List.{before_first, after_first, position_or_len}
use Rattle.std.proofs.lemmas.List.Elements.{All-push, All-head}
use Rattle.std.proofs.lemmas.List.Sums.{position_or_len_is}
use Rattle.std.proofs.lemmas.Fmt.{decimal_by_steps, decimal_injective}
use Rattle.std.proofs.lemmas.List.{length-append}
use Rattle.std.proofs.Math.ListN.{get_or-append}
use Rattle.std.proofs.Math.Nat.{mod-lt}
use Rattle.std.proofs.Math.Seq.{get_or-append_seam, take-append_seam, drop-append-add}
use Rattle.wire_text.specs.Feeding.{PieceTree, whole, part, Says, IsNoPiece}
use Rattle.wire_text.specs.declared.piece.TheConstants.{MOST_TO_COME}

-- the place of the first `_`
abbrev pub bar : List ℕ → ℕ
bar bytes = position_or_len (λ b. b == 95) bytes

-- the bytes are these digits, `_` and that part
pub record IsSplit (bytes digits p : List ℕ) : Type 0 where
  pub within : bar bytes < length bytes
  pub before : before_first (λ b. b == 95) bytes ≡ digits
  pub after : after_first (λ b. b == 95) bytes ≡ p

-- a digit
abbrev IsDigit : ℕ → Type 0
IsDigit b = (48 ≤ b) × (b ≤ 57)

-- a count has digits alone
pub are_digits : (n : ℕ) → n ≤ MOST_TO_COME → All IsDigit (decimal n)
are_digits n few =
    decimal_by_steps (λ n ds. All IsDigit ds)
    (λ n one. All-push IsDigit [] (48 + n) (λ k d below. absurd (omega (arith, below))) (omega (arith, one), omega (arith, one)))
    (λ n ds many digits. All-push IsDigit ds (48 + n % 10) digits (omega arith, omega (arith, low n))) n (omega (arith, few))
  where
    low : (n : ℕ) → n % 10 < 10
    low n = mod-lt n (omega arith)

-- bytes are split at the first `_`
split_at_bar : (digits p : List ℕ) → ((k : ℕ) → k < length digits → (get_or digits k 0 == 95) ≡ false) → IsSplit (digits ++ 95 ∷ p) digits p
split_at_bar digits p clean =
    let long : length (digits ++ 95 ∷ p) ≡ length digits + suc (length p) = length-append digits (95 ∷ p) in
    let at : bar (digits ++ 95 ∷ p) ≡ length digits =
    position_or_len_is (λ b. b == 95) (digits ++ 95 ∷ p) (length digits) 0
    (omega (arith, long))
    (λ k below. rw (get_or-append digits (95 ∷ p) 0 k below) (clean k below))
    (λ within. rw (get_or-append_seam digits 95 p 0) refl) in
    record {
      within = omega (arith, at, long);
      before = rw at (take-append_seam digits (95 ∷ p));
      after = rw at (drop-append-add digits (95 ∷ p) 1);
    }

-- a piece that says a part is split there
pub split_as_said : (n : ℕ) (p bytes : List ℕ) → Says (part n p) bytes → IsSplit bytes (decimal n) p
split_as_said n p bytes (digits, count, is) =
    let said : decimal n ++ 95 ∷ p ≡ bytes = sym (is ∙ ap (λ ds. ds ++ 95 ∷ p) count.1) in
    subst (λ bs. IsSplit bs (decimal n) p) said
    (split_at_bar (decimal n) p (λ k below. grind (arith, nat_tests, are_digits n count.0 k 0 below)))

-- what is neither a whole text nor a part is no piece
pub no_piece : (bytes : List ℕ) → ((rest : List ℕ) → bytes ≡ 123 ∷ rest → ⊥) → ((n : ℕ) (p : List ℕ) → Says (part n p) bytes → ⊥) → IsNoPiece bytes
no_piece bytes not_whole not_part (whole text) says = not_whole says.0 says.1
no_piece bytes not_whole not_part (part n p) says = not_part n p says

-- a part doesn't begin as a whole text does
part_is_not_whole : (n : ℕ) (p rest bytes : List ℕ) → Says (part n p) bytes → bytes ≡ 123 ∷ rest → ⊥
part_is_not_whole n p rest bytes (digits, count, is) begins = by_digits (decimal n) (are_digits n count.0) (sym begins ∙ is ∙ ap (λ ds. ds ++ 95 ∷ p) count.1)
  where
    by_digits : (ds : List ℕ) → All IsDigit ds → 123 ∷ rest ≡ ds ++ 95 ∷ p → ⊥
    by_digits [] all same = absurd (grind (arith, same))
    by_digits (d ∷ ds) all same = absurd (grind (arith, same, All-head IsDigit d ds all))

-- bytes say one thing at most
pub says_one : (p q : PieceTree) (bytes : List ℕ) → Says p bytes → Says q bytes → p ≡ q
says_one (whole t) (whole u) bytes s r = ap whole (s.2 ∙ sym r.2)
says_one (whole t) (part m u) bytes s r = absurd (part_is_not_whole m u s.0 bytes r s.1)
says_one (part n t) (whole u) bytes s r = absurd (part_is_not_whole n t r.0 bytes s r.1)
says_one (part n t) (part m u) bytes s r =
    let left = split_as_said n t bytes s in
    let right = split_as_said m u bytes r in
    let same : n ≡ m = decimal_injective n m (omega (arith, s.1.0)) (omega (arith, r.1.0)) (sym left.before ∙ right.before) in
    let rest : t ≡ u = sym left.after ∙ right.after in
    rw (same, rest) refl
