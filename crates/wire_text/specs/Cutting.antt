-- How a text is cut into pieces.
use Rattle.std.specs.Prelude.{ℕ, ◌≡◌, ◌<◌, ◌≤◌, List, [], ◌∷◌, ◌++◌, length, decimal}
use Rattle.std.specs.Str.{IsCharBoundary}
use Rattle.wire_text.specs.declared.cut.TheConstants.{LONGEST_PART}

-- so many bytes are the longest part with which a text may begin, ending between two characters
pub record IsLongest (text : List ℕ) (end : ℕ) : Type 0 where
  pub some : 0 < end
  pub fits : end ≤ LONGEST_PART
  pub whole : IsCharBoundary text end
  pub longest : (i : ℕ) → end < i → i ≤ LONGEST_PART → IsCharBoundary text i → ⊥

-- the text is cut into these parts, each as long as may be
abbrev pub AreParts : List ℕ → List (List ℕ) → Type 0
AreParts text [] = text ≡ []
AreParts text (part ∷ parts) =
    (rest : List ℕ) × (text ≡ part ++ rest) × IsLongest text (length part) × AreParts rest parts

-- each part after the number of those that follow it and `_`
abbrev pub numbered : List (List ℕ) → List (List ℕ)
numbered [] = []
numbered (part ∷ parts) = (decimal (length parts) ++ 95 ∷ part) ∷ numbered parts

-- the pieces of a text: the text itself if it isn't too long, else its numbered parts
pub record IsCutInto (text : List ℕ) (pieces : List (List ℕ)) : Type 0 where
  pub short : length text ≤ LONGEST_PART → pieces ≡ text ∷ []
  pub long :
      LONGEST_PART < length text →
      (parts : List (List ℕ)) × AreParts text parts × (pieces ≡ numbered parts)
