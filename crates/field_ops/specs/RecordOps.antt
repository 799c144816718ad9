-- What an operation on a record is.
use Rattle.std.specs.Prelude.{ℕ, List, Bool, false, codes}
use Rattle.rooms_val.specs.Data.{Data, IsSound}
use Rattle.rooms_val.specs.Maps.{AreRising, EachValue}
use Rattle.field_ops.specs.ValueOps.{Patch, edits_of, IsSoundPatch, edits_have_append}

pub data RecordOpTree : Type 0 where
  put : Data → RecordOpTree
  patch : Patch → RecordOpTree
  remove : RecordOpTree

-- the name of an operation
abbrev pub change_name : RecordOpTree → List ℕ
change_name (put d) = codes "put"
change_name (patch p) = codes "patch"
change_name remove = codes "remove"

-- the ids that a diff names with their operations, in order
abbrev pub RecordOps : Type 0
RecordOps = List (List ℕ × RecordOpTree)

-- the operation's patches and values are sound
abbrev pub IsSoundChange : RecordOpTree → Type 0
IsSoundChange (put d) = IsSound d
IsSoundChange (patch p) = IsSoundPatch p
IsSoundChange remove = Unit {0}

abbrev pub AreSoundChanges : RecordOps → Type 0
AreSoundChanges cs = EachValue IsSoundChange cs

-- a diff whose operations are sound and whose ids rise
abbrev pub IsSoundDiff : RecordOps → Type 0
IsSoundDiff cs = AreRising cs × AreSoundChanges cs

-- whether an append stands anywhere in the operation
abbrev pub has_append : RecordOpTree → Bool
has_append (put d) = false
has_append (patch p) = edits_have_append (edits_of p)
has_append remove = false
