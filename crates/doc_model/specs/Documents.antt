-- What diffs make of a document, under a rule of which records are admitted under which ids.
use Rattle.std.specs.Prelude.{ℕ, List, [], ◌∷◌, Bool, true, false, if◌then◌else◌, Option, Some, None, is_some}
use Rattle.std.specs.Option.{option_map_or}
use Rattle.rooms_val.specs.Data.{Data, Pairs}
use Rattle.rooms_val.specs.Maps.{value_at, set_at}
use Rattle.field_ops.specs.RecordOps.{RecordOpTree, put, patch, remove, RecordOps}
use Rattle.field_ops.specs.Patched.{raw}

-- the document with each operation of a diff done to its record, admitted or not
abbrev pub fold_raw : Pairs → RecordOps → Pairs
fold_raw document [] = document
fold_raw document (c ∷ diff) = fold_raw (set_at document c.0 (raw c.1 (value_at document c.0))) diff

module _ (admits : List ℕ → Data → Bool) where
  -- an operation acts on the record, or the lack of one, that stands under an id: a put always, a remove on a record, a
  -- patch where it leaves an admitted record
  abbrev pub acts_on : List ℕ → RecordOpTree → Option Data → Bool
  acts_on id (put d) r = true
  acts_on id remove r = is_some r
  acts_on id (patch p) r = option_map_or (admits id) (raw (patch p) r) false

  -- what an operation leaves under an id, a record or none, where it acts; none where it is passed over
  abbrev pub left_on : List ℕ → RecordOpTree → Option Data → Option (Option Data)
  left_on id c r = if acts_on id c r then Some (raw c r) else None

  -- whether it acts on the record that a document has under the id
  abbrev pub acts : Pairs → List ℕ → RecordOpTree → Bool
  acts document id c = acts_on id c (value_at document id)

  -- the document with what an operation makes of its record, where it acts
  abbrev pub step_at : Pairs → List ℕ → RecordOpTree → Pairs
  step_at document id c = if acts document id c then set_at document id (raw c (value_at document id)) else document

  -- the document with each operation of a diff done to its record, where it acts
  abbrev pub step : Pairs → RecordOps → Pairs
  step document [] = document
  step document (c ∷ diff) = step (step_at document c.0 c.1) diff

  -- the document with diffs done to it, the oldest first
  abbrev pub replay : Pairs → List RecordOps → Pairs
  replay document [] = document
  replay document (diff ∷ diffs) = replay (step document diff) diffs
