-- What a `Marks` keeps of a history and a redo list.
use Rattle.std.specs.Prelude.{List, ◌++◌, map, reverse, option_to_list}
use Rattle.field_ops.specs.RecordOps.{RecordOps}
use Rattle.doc_model.specs.Marks.{Redo}
use Rattle.undo_marks.specs.Histories.{Section}
use Rattle.undo_marks.specs.declared.stretch.Stretch.{Stretch}
use Rattle.undo_marks.specs.declared.marks.Marked.{Marked}
use Rattle.undo_marks.specs.declared.marks.Undone.{Undone}
use Rattle.undo_marks.specs.declared.marks.Marks.{Marks}

-- the inverses between two marks, the oldest first
abbrev pub diffs_of : Stretch → List RecordOps
diffs_of s = option_to_list s.joined ++ option_to_list s.latest

-- a mark with those before it
abbrev pub section_of : Marked → Section
section_of m = record { before = diffs_of m.before; name = m.name }

-- the marks, the newest first
abbrev pub sections_of : Marks → List Section
sections_of kept = reverse (map section_of kept.marked.items)

-- what an undo took back
abbrev pub redo_of : Undone → Redo
redo_of u = record { diff = u.diff; dropped = reverse u.names.items }

-- the redo list, the newest first
abbrev pub redos_of : Marks → List Redo
redos_of kept = reverse (map redo_of kept.undone.items)
