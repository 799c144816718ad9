-- When a mark brings a document back to what it was.
use Rattle.std.specs.Prelude.{◌≡◌, ℕ, List, [], ◌∷◌, ◌++◌, filter_map, Bool, true, false, Some}
use Rattle.std.specs.List.{list_any}
use Rattle.std.specs.Option.{option_map_or}
use Rattle.rooms_val.specs.Data.{Data, Pairs}
use Rattle.rooms_val.specs.Maps.{value_at, AreRising, EachValue}
use Rattle.field_ops.specs.ValueOps.{Patch}
use Rattle.field_ops.specs.RecordOps.{patch, RecordOps, has_append}
use Rattle.doc_model.specs.Documents.{fold_raw}
use Rattle.doc_model.specs.Merging.{merge}
use Rattle.doc_model.specs.Marks.{Item, mark, Marks, diff_in, is_named}

-- a diff whose ids rise and that has no append, as each inverse of a diff
abbrev pub IsPlain : RecordOps → Type 0
IsPlain diff = AreRising diff × EachValue (λ c. has_append c ≡ false) diff

-- the same of each of some diffs
abbrev pub ArePlain : List RecordOps → Type 0
ArePlain [] = Unit {0}
ArePlain (diff ∷ diffs) = IsPlain diff × ArePlain diffs

-- the last mark of a name brings a document back to what it was before
pub record Restores (name : List ℕ) (marks : Marks) (document before : Pairs) : Type 0 where
  -- there is such a mark, and after it none of the name
  pub earlier : List Item
  pub later : List Item
  pub there : marks.history ≡ earlier ++ mark name ∷ later
  pub last : list_any (is_named name) later ≡ false
  -- the inverses after it are as inverses are
  pub plain : ArePlain (filter_map diff_in later)
  -- merged, and done to the records whatever is admitted, they give what was before
  pub brings : fold_raw document (merge (filter_map diff_in later)) ≡ before

-- each record that a patch of a diff is to bring back is admitted under its id
abbrev pub AreBackAdmitted : (List ℕ → Data → Bool) → RecordOps → Pairs → Type 0
AreBackAdmitted admits diff before = (id : List ℕ) (p : Patch) → value_at diff id ≡ Some (patch p) → option_map_or (admits id) (value_at before id) true ≡ true
