-- What a piece says, and what an assembler makes of pieces.
use Rattle.std.specs.Prelude.{ℕ, zero, suc, pos, negsuc, ◌≡◌, ◌≤◌, List, ◌∷◌, ◌++◌, length, decimal, if◌then◌else◌, nat_le, nat_eq, Option, Some, None, Result, Ok, Err}
use Rattle.std.specs.Option.{option_map_or}
use Rattle.wire_text.specs.declared.piece.TheConstants.{MOST_TO_COME}
use Rattle.wire_text.specs.declared.fault.PieceFault.{PieceFault}
use Rattle.wire_text.specs.declared.piece.Piece.{Piece}
use Rattle.wire_text.specs.declared.piece.Piece.TheVariants.{Whole, Part}
use Rattle.wire_text.specs.declared.fault.PieceFault.TheVariants.{OutOfTurn, TooLong}

-- what a piece says: a whole text, or a part and how many are still to come
pub data PieceTree : Type 0 where
  whole : List ℕ → PieceTree
  part : ℕ → List ℕ → PieceTree

-- the code's piece as one of these
abbrev pub tree_of : Piece → PieceTree
tree_of (Whole text) = whole text.now
tree_of (Part n p) = part n p.now

-- the digits are a number of parts still to come
abbrev pub IsCount : ℕ → List ℕ → Type 0
IsCount n digits = (n ≤ MOST_TO_COME) × (digits ≡ decimal n)

-- these bytes say that: a text that begins with `{` is whole, a part stands after its count and `_`
abbrev pub Says : PieceTree → List ℕ → Type 0
Says (whole text) bytes = (rest : List ℕ) × (bytes ≡ 123 ∷ rest) × (text ≡ bytes)
Says (part n p) bytes = (digits : List ℕ) × IsCount n digits × (bytes ≡ digits ++ 95 ∷ p)

-- these bytes are no piece
abbrev pub IsNoPiece : List ℕ → Type 0
IsNoPiece bytes = (piece : PieceTree) → Says piece bytes → ⊥

-- what came of a text that isn't whole: how many parts follow the next one, and the parts together
pub record Gathered : Type 0 where
  pub next : ℕ
  pub text : List ℕ

-- an assembler: the most bytes of a text, and what came of one
pub record Assembly : Type 0 where
  pub limit : ℕ
  pub gathered : Option Gathered

-- an assembler that gathered nothing
abbrev pub empty : ℕ → Assembly
empty limit = record { limit = limit; gathered = None }

-- how many parts are still to come after a piece
abbrev pub to_come : PieceTree → ℕ
to_come (whole text) = 0
to_come (part n p) = n

-- why a piece doesn't follow what came, if it doesn't
abbrev pub turn_fault : Option Gathered → PieceTree → Option PieceFault
turn_fault None piece = None
turn_fault (Some gathered) (whole text) = Some (OutOfTurn (pos gathered.next) (negsuc 0))
turn_fault (Some gathered) (part n p) =
    if nat_eq n gathered.next then None else Some (OutOfTurn (pos gathered.next) (pos n))

-- what came so far, with a piece that follows it
abbrev pub joined : Option Gathered → PieceTree → List ℕ
joined gathered (whole text) = text
joined None (part n p) = p
joined (Some gathered) (part n p) = gathered.text ++ p

-- the same, or why the piece doesn't follow
abbrev pub joined_in_turn : Option Gathered → PieceTree → Result (List ℕ) PieceFault
joined_in_turn gathered piece =
    option_map_or Err (turn_fault gathered piece) (Ok (joined gathered piece))

-- a text is given if nothing is still to come
abbrev pub given_at : ℕ → List ℕ → Option (List ℕ)
given_at zero text = Some text
given_at (suc n) text = None

-- else it is gathered
abbrev pub gathered_at : ℕ → List ℕ → Option Gathered
gathered_at zero text = None
gathered_at (suc n) text = Some (record { next = n; text = text })

-- what is given of a text so far within a limit
abbrev pub given_within : ℕ → ℕ → List ℕ → Result (Option (List ℕ)) PieceFault
given_within limit n text = if nat_le (length text) limit then Ok (given_at n text) else Err TooLong

-- what an assembler gives for a piece: a text, none while more is to come, or why it is refused
abbrev pub given : Assembly → PieceTree → Result (Option (List ℕ)) PieceFault
given assembly piece =
    option_map_or Err (turn_fault assembly.gathered piece)
    (given_within assembly.limit (to_come piece) (joined assembly.gathered piece))

-- the assembler after a piece that it takes
abbrev pub after : Assembly → PieceTree → Assembly
after assembly piece =
    record assembly { gathered = gathered_at (to_come piece) (joined assembly.gathered piece) }
