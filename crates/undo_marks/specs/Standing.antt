-- For which history and redo list a `Marks` stands.
use Rattle.std.specs.Prelude.{◌≡◌}
use Rattle.doc_model.specs.Marks as model
use Rattle.undo_marks.specs.Histories.{IsKept}
use Rattle.undo_marks.specs.Kept.{diffs_of, sections_of, redos_of}
use Rattle.undo_marks.specs.declared.marks.Marks.{Marks}

-- it has the marks of the history, between them inverses that merge to the same, and the same redo list
pub record Stands (marks : model.Marks) (kept : Marks) : Type 0 where
  pub history : IsKept (sections_of kept) (diffs_of kept.last) marks.history
  pub redos : redos_of kept ≡ marks.redos

-- it still stands for what it stood for
abbrev pub KeepsStanding : Marks → Marks → Type 0
KeepsStanding old new = (marks : model.Marks) → Stands marks old → Stands marks new
