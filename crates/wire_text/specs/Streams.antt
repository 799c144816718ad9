-- Pieces that come one after another, and the text that they are.
use Rattle.std.specs.Prelude.{ℕ, ◌+◌, ◌≡◌, ◌≤◌, ◌⊎◌, List, [], ◌∷◌, ◌++◌, length, Some, None, Ok}
use Rattle.wire_text.specs.Cutting.{IsCutInto}
use Rattle.wire_text.specs.Feeding.{PieceTree, whole, part, Says, Assembly, empty, given, after}
use Rattle.wire_text.specs.declared.piece.TheConstants.{MOST_TO_COME}

-- these pieces are said by these bytes
abbrev pub AreSaid : List PieceTree → List (List ℕ) → Type 0
AreSaid [] [] = Unit {0}
AreSaid [] (bytes ∷ pieces) = ⊥
AreSaid (p ∷ ps) [] = ⊥
AreSaid (p ∷ ps) (bytes ∷ pieces) = Says p bytes × AreSaid ps pieces

-- an assembler takes the pieces in turn, and the last one gives the text
abbrev pub Gives : Assembly → List PieceTree → List ℕ → Type 0
Gives assembly [] text = ⊥
Gives assembly (p ∷ []) text = given assembly p ≡ Ok (Some text)
Gives assembly (p ∷ q ∷ ps) text =
    (given assembly p ≡ Ok None) × Gives (after assembly p) (q ∷ ps) text

-- parts together
abbrev pub join : List (List ℕ) → List ℕ
join [] = []
join (p ∷ ps) = p ++ join ps

-- each part with the number of those that follow it
abbrev pub counted : List (List ℕ) → List PieceTree
counted [] = []
counted (p ∷ ps) = part (length ps) p ∷ counted ps

-- a whole text stands for itself, parts whose counts fall by one to 0 for what they are together
abbrev pub StandFor : List PieceTree → List ℕ → Type 0
StandFor pieces text =
    (pieces ≡ whole text ∷ [])
    ⊎ ((parts : List (List ℕ)) × (pieces ≡ counted parts) × (text ≡ join parts))

-- a text that begins with `{` and is within the limit is given by its own pieces
abbrev pub PiecesComeBack : Type 0
PiecesComeBack =
    (limit : ℕ) (text rest : List ℕ) (pieces : List (List ℕ)) →
    text ≡ 123 ∷ rest → length text ≤ limit →
    length pieces ≤ MOST_TO_COME + 1 → IsCutInto text pieces →
    (said : List PieceTree) × AreSaid said pieces × Gives (empty limit) said text

-- whatever an assembler gives, the pieces stand for
abbrev pub GivenStands : Type 0
GivenStands =
    (limit : ℕ) (said : List PieceTree) (text : List ℕ) →
    Gives (empty limit) said text → StandFor said text
