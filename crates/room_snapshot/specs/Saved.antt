-- What a saved room stands for.
use Rattle.std.specs.Prelude.{ℕ, ℤ, List}
use Rattle.std.specs.Prelude as std
use Rattle.rooms_val.specs.Data.{Data}
use Rattle.rooms_val.specs.View.{data_of}
use Rattle.room_model.specs.declared.saved.SavedRecord.{SavedRecord}
use Rattle.room_model.specs.declared.saved.SavedTomb.{SavedTomb}
use Rattle.room_model.specs.declared.saved.SavedRoom.{SavedRoom}

-- records of the document, each with the clock of its last entry
abbrev pub Documents : Type 0
Documents = List (Data × ℤ)

-- removed ids, each with the clock of its removal
abbrev pub Tombs : Type 0
Tombs = List (List ℕ × ℤ)

-- a saved room: its clock, up to where removals are forgotten, its records and the removals that are remembered
pub record SavedTree : Type 0 where
  pub clock : ℤ
  pub start : ℤ
  pub documents : Documents
  pub tombstones : Tombs

abbrev pub document_view : SavedRecord → Data × ℤ
document_view r = (data_of r.record, r.clock)

abbrev pub documents_view : List SavedRecord → Documents
documents_view rs = std.map document_view rs

abbrev pub tomb_view : SavedTomb → List ℕ × ℤ
tomb_view t = (t.id, t.clock)

abbrev pub tombs_view : List SavedTomb → Tombs
tombs_view ts = std.map tomb_view ts

abbrev pub saved_tree : SavedRoom → SavedTree
saved_tree s = record { clock = s.clock; start = s.start; documents = documents_view s.documents.items; tombstones = tombs_view s.tombstones.items }

-- the records alone
abbrev pub records_of : Documents → List Data
records_of ds = std.map (λ d. d.0) ds
