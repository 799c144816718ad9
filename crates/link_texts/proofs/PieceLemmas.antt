-- Bytes are a piece or none.
use Rattle.std.proofs.Common.{ℕ, zero, suc, ◌≡◌, ◌<◌, ◌⊎◌, inl, inr, List, [], ◌∷◌, ◌++◌, decimal, refl, ap, ◌∙◌, subst, arith}
use Rattle.std.proofs.lemmas.Bool.{cases_eq}
use Rattle.wire_text.specs.Feeding.{PieceTree, whole, part, Says, IsNoPiece}
use Rattle.wire_text.specs.declared.piece.TheConstants.{MOST_TO_COME}

-- a number below a bound has a property, or none has
one_below : (P : ℕ → Type 0) → ((n : ℕ) → P n ⊎ (P n → ⊥)) → (m : ℕ) → ((n : ℕ) × (n < m) × P n) ⊎ ((n : ℕ) → n < m → P n → ⊥)
one_below P decide zero = inr (λ n below p. absurd (omega (arith, below)))
one_below P decide (suc m) = elim (one_below P decide m) [
  | inl found ↦ inl (found.0, omega (arith, found.1), found.2)
  | inr none ↦ elim (decide m) [
    | inl here ↦ inl (m, omega arith, here)
    | inr not ↦ inr (λ n below p. elim (cases_eq n m) [ inl same ↦ not (subst P same p) | inr other ↦ none n (omega (arith, below, other)) p ])
  ]
]

-- bytes are these and `_`, with anything after it
abbrev IsAfter : List ℕ → List ℕ → Type 0
IsAfter ds bytes = (p : List ℕ) × (bytes ≡ ds ++ 95 ∷ p)

after_or_not : (ds bytes : List ℕ) → IsAfter ds bytes ⊎ (IsAfter ds bytes → ⊥)
after_or_not [] [] = inr (λ is. absurd (let e = is.1 in cc))
after_or_not [] (b ∷ bs) = elim (cases_eq b 95) [
  | inl same ↦ inl (bs, rw same refl)
  | inr other ↦ inr (λ is. other (let e : b ∷ bs ≡ 95 ∷ is.0 = is.1 in cc))
]
after_or_not (d ∷ ds) [] = inr (λ is. absurd (let e : [] ≡ d ∷ (ds ++ 95 ∷ is.0) = is.1 in cc))
after_or_not (d ∷ ds) (b ∷ bs) = elim (cases_eq b d) [
  | inl same ↦ elim (after_or_not ds bs) [
    | inl is ↦ inl (is.0, rw (same, is.1) refl)
    | inr not ↦ inr (λ is. not (is.0, let e : b ∷ bs ≡ d ∷ (ds ++ 95 ∷ is.0) = is.1 in cc))
  ]
  | inr other ↦ inr (λ is. other (let e : b ∷ bs ≡ d ∷ (ds ++ 95 ∷ is.0) = is.1 in cc))
]

pub piece_or_none : (bytes : List ℕ) → ((piece : PieceTree) × Says piece bytes) ⊎ IsNoPiece bytes
piece_or_none bytes = elim (one_below (λ n. IsAfter (decimal n) bytes) (λ n. after_or_not (decimal n) bytes) (suc MOST_TO_COME)) [
  | inl found ↦ inl (part found.0 found.2.0, (decimal found.0, (omega (arith, found.1), refl), found.2.1))
  | inr none ↦ by_first bytes none
]
  where
    no_piece : (bytes : List ℕ) → ((rest : List ℕ) → bytes ≡ 123 ∷ rest → ⊥) → ((n : ℕ) → n < suc MOST_TO_COME → IsAfter (decimal n) bytes → ⊥) → IsNoPiece bytes
    no_piece bytes not_whole not_part (whole text) says = not_whole says.0 says.1
    no_piece bytes not_whole not_part (part n p) says = not_part n (omega (arith, says.1.0)) (p, says.2 ∙ ap (λ ds. ds ++ 95 ∷ p) says.1.1)

    by_first : (bytes : List ℕ) → ((n : ℕ) → n < suc MOST_TO_COME → IsAfter (decimal n) bytes → ⊥) → ((piece : PieceTree) × Says piece bytes) ⊎ IsNoPiece bytes
    by_first [] none = inr (no_piece [] (λ rest is. absurd (cc)) none)
    by_first (b ∷ bs) none = elim (cases_eq b 123) [
      | inl same ↦ inl (whole (b ∷ bs), (bs, rw same refl, refl))
      | inr other ↦ inr (no_piece (b ∷ bs) (λ rest is. other (let e : b ∷ bs ≡ 123 ∷ rest = is in cc)) none)
    ]
