-- What is begun.
use Rattle.std.specs.Prelude.{◌≡◌, ℕ, ◌+◌, ◌<◌, ◌≤◌, List, [], ◌∷◌, ◌++◌, None, Result, Ok, Err, vec_len, vec_capacity}
use Rattle.std.specs.Option.{option_map_or}
use Rattle.std.specs.Global.{Vec}
use Rattle.field_ops.specs.RecordOps.{RecordOps}
use Rattle.doc_model.specs.Marks as model
use Rattle.undo_marks.specs.Histories.{AreTaken, IsLastNamed}
use Rattle.undo_marks.specs.Kept.{diffs_of, sections_of}
use Rattle.undo_marks.specs.declared.fault.BailFault.{BailFault}
use Rattle.undo_marks.specs.declared.fault.BailFault.TheVariants.{NoMark}
use Rattle.undo_marks.specs.declared.marks.Begun.TheVariants as begun
use Rattle.undo_marks.specs.declared.marks.Undone.{Undone}
use Rattle.undo_marks.specs.declared.marks.Marks.{Marks}

-- nothing, an edit, an undo, a redo, or a bail to a mark of a name
pub data BegunTree : Type 0 where
  nothing : BegunTree
  edit : BegunTree
  undo : BegunTree
  redo : BegunTree
  bail : List ℕ → BegunTree

-- there is place for the inverse of an edit
pub record IsEditBegun (kept : Marks) : Type 0 where
  pub is : kept.begun ≡ begun.Edit
  pub settled : kept.last.latest ≡ None

-- there are inverses to take back, and place for the names of the marks after them and for what is taken back
pub record IsUndoBegun (kept : Marks) : Type 0 where
  pub names : Vec (List ℕ)
  pub is : kept.begun ≡ begun.Undo names
  pub none : names.items ≡ []
  pub dropped : ℕ
  pub taken : List RecordOps
  pub there : AreTaken dropped (sections_of kept) (diffs_of kept.last) taken
  pub for_names : dropped ≤ vec_capacity names
  pub for_undone : vec_len kept.undone < vec_capacity kept.undone

-- something was taken back, and there is place for an inverse and for the marks that come back with it
pub record IsRedoBegun (kept : Marks) : Type 0 where
  pub is : kept.begun ≡ begun.Redo
  pub settled : kept.last.latest ≡ None
  pub older : List Undone
  pub newest : Undone
  pub there : kept.undone.items ≡ older ++ newest ∷ []
  pub for_marks : vec_len kept.marked + vec_len newest.names ≤ vec_capacity kept.marked

-- there is a mark of the name
pub record IsBailBegun (name : List ℕ) (kept : Marks) : Type 0 where
  pub newer : ℕ
  pub is : kept.begun ≡ begun.Bail newer
  pub there : IsLastNamed newer name (sections_of kept)

abbrev pub IsBegun : BegunTree → Marks → Type 0
IsBegun nothing kept = kept.begun ≡ begun.Nothing
IsBegun edit kept = IsEditBegun kept
IsBegun undo kept = IsUndoBegun kept
IsBegun redo kept = IsRedoBegun kept
IsBegun (bail name) kept = IsBailBegun name kept

-- what was begun still is
abbrev pub KeepsBegun : Marks → Marks → Type 0
KeepsBegun old new = (what : BegunTree) → IsBegun what old → IsBegun what new

-- the diff of a bail, if there is a mark of the name
abbrev pub bail_answer : List ℕ → model.Marks → Result RecordOps BailFault
bail_answer name marks = option_map_or (λ diff. Ok diff) (model.bail_diff name marks) (Err NoMark)
