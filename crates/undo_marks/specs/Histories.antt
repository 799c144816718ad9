-- What is kept of a history: its marks, and between them inverses that merge to the same as the history's.
use Rattle.std.specs.Prelude.{◌≡◌, ◌≢◌, ℕ, zero, suc, List, [], ◌∷◌, ◌++◌, map}
use Rattle.field_ops.specs.RecordOps.{RecordOps}
use Rattle.doc_model.specs.Marks.{Item, mark, inverse, merge_some}
use Rattle.undo_marks.specs.Inverses.{AreInverses}

-- a mark, and the inverses that are kept of those since the mark before it, the oldest first
pub record Section : Type 0 where
  pub before : List RecordOps
  pub name : List ℕ

-- items are inverses that merge to the same as those kept; where none is kept there is none
pub record IsStretch (kept : List RecordOps) (items : List Item) : Type 0 where
  pub inverses : List RecordOps
  pub each : AreInverses inverses
  pub same : merge_some inverses ≡ merge_some kept
  pub are : items ≡ map inverse inverses

-- a history is an older one, a mark, and a stretch of inverses
pub record IsMarked (Older : List Item → Type 0) (name : List ℕ) (last : List RecordOps) (history : List Item) : Type 0 where
  pub before : List Item
  pub after : List Item
  pub older : Older before
  pub stretch : IsStretch last after
  pub is : history ≡ before ++ mark name ∷ after

-- what is kept of a history: sections, the newest first, and the inverses after the last mark
abbrev pub IsKept : List Section → List RecordOps → List Item → Type 0
IsKept [] last history = IsStretch last history
IsKept (s ∷ older) last history = IsMarked (IsKept older s.before) s.name last history

-- this many marks stand after the last inverses, which are these
abbrev pub AreTaken : ℕ → List Section → List RecordOps → List RecordOps → Type 0
AreTaken zero sections last taken = (taken ≡ last) × (last ≢ [])
AreTaken (suc n) [] last taken = ⊥
AreTaken (suc n) (s ∷ older) last taken = (last ≡ []) × AreTaken n older s.before taken

-- there is no inverse
abbrev pub HasNone : List Section → List RecordOps → Type 0
HasNone [] last = last ≡ []
HasNone (s ∷ older) last = (last ≡ []) × HasNone older s.before

-- this many marks stand after the last of a name, before which these inverses stand, and older sections
abbrev pub IsLastNamed : ℕ → List ℕ → List Section → Type 0
IsLastNamed n name [] = ⊥
IsLastNamed zero name (s ∷ older) = name ≡ s.name
IsLastNamed (suc n) name (s ∷ older) = (name ≢ s.name) × IsLastNamed n name older

-- no mark has the name
abbrev pub NamesNone : List ℕ → List Section → Type 0
NamesNone name [] = Unit {0}
NamesNone name (s ∷ older) = (name ≢ s.name) × NamesNone name older

-- the inverses after all but this many of the marks
abbrev pub inverses_since : ℕ → List Section → List RecordOps → List RecordOps
inverses_since n [] last = last
inverses_since zero (s ∷ older) last = last
inverses_since (suc n) (s ∷ older) last = inverses_since n older s.before ++ last
