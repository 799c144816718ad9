-- What a text is taken or refused for.
use Rattle.std.proofs.Common.{◌≡◌, ℕ, inl, inr, List, Option, Result, Ok, Err, sym, subst}
use Rattle.std.specs.Prelude.{IsUtf8}
use Rattle.link_texts.specs.Faults.{fault_of_piece}
use Rattle.link_texts.specs.Hearing.{IsTaken, RefusesPiece, RefusesText, Refuses, IfRefused}
use Rattle.link_texts.proofs.PieceLemmas.{piece_or_none}
use Rattle.wire_text.specs.Feeding.{PieceTree, Assembly, Says, IsNoPiece, given, after}
use Rattle.wire_text.specs.declared.fault.PieceFault.{PieceFault}
use Rattle.wire_text.specs.declared.fault.PieceFault.TheVariants as piece

-- what fails
abbrev fails : PieceFault → Result (Option (List ℕ)) PieceFault
fails f = Err f

pub same_fault : (f g : PieceFault) → fails f ≡ fails g → f ≡ g
same_fault f g is = cc

-- bytes that an assembler takes are a piece
pub takes : (a b : Assembly) (said bytes : List ℕ) (text : Option (List ℕ)) → (said ≡ bytes) × IsUtf8 bytes → ((p : PieceTree) → Says p said → given a p ≡ Ok text)
    → ((p : PieceTree) → Says p said → b ≡ after a p) → (IsNoPiece said → Ok text ≡ Err piece.BadPiece) → IsTaken a bytes text b
takes a b said bytes text (same, utf8) gives leaves bad = elim (piece_or_none said) [
  | inl (p, says) ↦ record { piece = p; is = record { utf8 = utf8; says = subst (Says p) same says }; now_is = leaves p says; gives = gives p says }
  | inr none ↦ absurd (let e : Ok text ≡ Err piece.BadPiece = bad none in cc)
]

-- bytes that an assembler refuses are a piece that it refuses, or none
pub refuses_piece : (a : Assembly) (said bytes : List ℕ) (f : PieceFault) → (said ≡ bytes) × IsUtf8 bytes
    → ((p : PieceTree) → Says p said → ¬ (f ≡ piece.OutOfMemory) → given a p ≡ Err f) → (IsNoPiece said → f ≡ piece.BadPiece) → RefusesText a bytes f
refuses_piece a said bytes f (same, utf8) gives bad = by f gives bad
  where
    because : (f : PieceFault) → ¬ (f ≡ piece.OutOfMemory) → ((p : PieceTree) → Says p said → ¬ (f ≡ piece.OutOfMemory) → given a p ≡ Err f)
        → (IsNoPiece said → f ≡ piece.BadPiece) → RefusesPiece a bytes f
    because f other gives bad = elim (piece_or_none said) [
      | inl (p, says) ↦ inr (p, record { utf8 = utf8; says = subst (Says p) same says }, gives p says other)
      | inr none ↦ inl (λ p is. none p (subst (Says p) (sym same) is.says), bad none)
    ]

    by : (f : PieceFault) → ((p : PieceTree) → Says p said → ¬ (f ≡ piece.OutOfMemory) → given a p ≡ Err f)
        → (IsNoPiece said → f ≡ piece.BadPiece) → RefusesText a bytes f
    by piece.BadPiece gives bad = because piece.BadPiece (λ e. cc) gives bad
    by (piece.OutOfTurn wanted came) gives bad = because (piece.OutOfTurn wanted came) (λ e. cc) gives bad
    by piece.TooLong gives bad = because piece.TooLong (λ e. cc) gives bad
    by piece.OutOfMemory gives bad = tt

-- a text that an assembler doesn't take is refused for that
pub refuses_taken : (a : Assembly) (bytes : List ℕ) (f : PieceFault) → RefusesText a bytes f → IfRefused (Refuses a bytes) (fault_of_piece f)
refuses_taken a bytes piece.BadPiece why = why
refuses_taken a bytes (piece.OutOfTurn wanted came) why = why
refuses_taken a bytes piece.TooLong why = why
refuses_taken a bytes piece.OutOfMemory why = tt
