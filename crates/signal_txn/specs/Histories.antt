-- All writes that there were, of which transactions keep the last.
use Rattle.std.specs.Prelude.{◌≡◌, ℕ, List, [], ◌∷◌, ◌++◌}
use Rattle.signal_txn.specs.declared.write.Write.{Write}
use Rattle.signal_txn.specs.LastWrites.{LastWrites, kept}
use Rattle.signal_txn.specs.Level.{Level}
use Rattle.signal_txn.specs.Journal.{Journal}
use Rattle.signal_txn.specs.Turns.{Rise}

-- all writes of each open transaction, the newest first, and last the committed ones
abbrev pub History : Type 0 → Type 0 → Type 0
History K V = List (List (Write K V))

-- the last list
abbrev pub last_list : {A : Type 0} → List (List A) → List A
last_list [] = []
last_list (xs ∷ []) = xs
last_list (xs ∷ ys ∷ rest) = last_list (ys ∷ rest)

-- an item joins the first list
abbrev pub first_joined : {A : Type 0} → A → List (List A) → List (List A)
first_joined item [] = []
first_joined item (xs ∷ rest) = (xs ++ item ∷ []) ∷ rest

-- the items of the first list follow those of the second
abbrev pub first_merged : {A : Type 0} → List (List A) → List (List A)
first_merged [] = []
first_merged (xs ∷ []) = xs ∷ []
first_merged (xs ∷ ys ∷ rest) = (ys ++ xs) ∷ rest

-- the last of these writes are kept, whose epochs rise from above one epoch up to another
pub record KeepsLast {K V : Type 0} (low high : ℕ) (writes : List (Write K V))
    (stored : LastWrites K V) : Type 0 where
  pub rise : Rise low writes high
  pub last : stored ≡ kept writes

-- each open transaction keeps the last of its writes, which came after those of the one around it, and of the
-- committed ones the last are kept
abbrev pub KeepEach : {K V : Type 0} → History K V → List (Level K V) → LastWrites K V → ℕ → Type 0
KeepEach [] levels ring high = ⊥
KeepEach (writes ∷ rest) [] ring high = (rest ≡ []) × KeepsLast 0 high writes ring
KeepEach (writes ∷ rest) (level ∷ around) ring high =
    (low : ℕ) × KeepsLast low high writes level.last × KeepEach rest around ring low

-- so of a journal at an epoch
abbrev pub Keeps : {K V : Type 0} → History K V → Journal K V → ℕ → Type 0
Keeps history journal epoch = KeepEach history journal.levels journal.ring epoch
