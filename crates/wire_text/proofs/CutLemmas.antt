-- The longest part of a text has a character.
use Rattle.std.proofs.Common.{ℕ, ◌≡◌, ◌<◌, ◌≤◌, List, [], ◌∷◌, length, sym, subst, arith}
use Rattle.std.specs.Str.{IsUtf8, IsCharBoundary}
use Rattle.std.specs.Char.{len_utf8}
use Rattle.std.proofs.lemmas.Str.{IsCharBoundary-past_char, len_utf8_bounds}
use lib.Utf8.{encodes}

-- a text that isn't empty may be cut after its first character
pub first_cut : (text : List ℕ) → IsUtf8 text → 0 < length text → (n : ℕ) × (0 < n) × (n ≤ 4) × IsCharBoundary text n
first_cut text utf8 some = by_chars utf8.0 utf8.1.1
  where
    by_chars : (cs : List ℕ) → encodes cs ≡ text → (n : ℕ) × (0 < n) × (n ≤ 4) × IsCharBoundary text n
    by_chars [] is = absurd (grind (some, is, arith))
    by_chars (c ∷ cs) is =
        (len_utf8 c, omega (arith, len_utf8_bounds c), omega (arith, len_utf8_bounds c), subst (IsCharBoundary text) (omega arith) (IsCharBoundary-past_char text (encodes cs) 0 c (omega arith) utf8 (sym is)))
