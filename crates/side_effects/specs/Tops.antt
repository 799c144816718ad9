-- The greatest index of each parent's children, as the code keeps it. No public contract shows it.
use Rattle.std.specs.Prelude.{◌≡◌, ℕ, List, true, if◌then◌else◌, Option, Some, None}
use Rattle.std.specs.Option.{option_map_or}
use Rattle.rooms_val.specs.Data.{Pairs}
use Rattle.rooms_val.specs.Kinds.{text_at}
use Rattle.rooms_val.specs.Maps.{AreRising, value_at, ties}
use Rattle.field_ops.specs.RecordOps.{RecordOpTree, RecordOps}
use Rattle.doc_model.specs.Documents.{fold_raw}
use Rattle.shape_tree.specs.Trees.{is_child}
use Rattle.side_effects.specs.Records.{index_of}
use Rattle.side_effects.specs.Placed.{is_unplaced, greater, greatest_index}

-- what is kept for a parent
abbrev pub top_in : Pairs → List ℕ → Option (List ℕ)
top_in tops parent = text_at tops parent

-- what was kept for another parent, raised to an index where it is this one
abbrev pub raised : List ℕ → List ℕ → List ℕ → Option (List ℕ) → Option (List ℕ)
raised parent index other top = if ties parent other then greater top index else top

-- what was kept for a parent, raised to the index of the record under an id where it is a child
abbrev pub raised_by : Pairs → List ℕ → List ℕ → Option (List ℕ) → Option (List ℕ)
raised_by m id parent top = option_map_or (λ d. if is_child parent (id, d) then greater top (index_of d) else top) (value_at m id) top

-- what is kept is the greatest index, for each parent
abbrev pub AreTops : Pairs → Pairs → Type 0
AreTops m tops = (parent : List ℕ) → top_in tops parent ≡ greatest_index m parent

-- how far the placing of new shapes has come: with a diff that has those so far, and operations that are left
pub record IsPlacing (m tops : Pairs) (diff left : RecordOps) : Type 0 where
  pub tops_are : AreTops (fold_raw m diff) tops
  pub rising : AreRising m × AreRising diff × AreRising left
  pub fresh : (q : List ℕ) (c : RecordOpTree) → value_at left q ≡ Some c → is_unplaced m q c ≡ true → value_at diff q ≡ None
