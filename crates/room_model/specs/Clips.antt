-- What clients copy and paste, as records of functions over documents: the same at all versions.
use Rattle.std.specs.Prelude.{ℕ, nat_lt, nat_le, ℤ, List, length, Bool, ◌&&◌, Result}
use Rattle.std.specs.List.{list_all}
use Rattle.rooms_val.specs.Data.{Pairs}
use Rattle.record_valid.specs.Ids.{is_unique_byte}
use Rattle.field_ops.specs.RecordOps.{RecordOps}
use Rattle.room_model.specs.declared.clip_fault.ClipFault.{ClipFault}
use Rattle.room_model.specs.declared.clip_fault.PasteFault.{PasteFault}

-- what was copied, by the ids that it has in the document
pub record ClipTree : Type 0 where
  pub shapes : Pairs
  pub bindings : Pairs

-- where a paste goes: what new ids have before their numbers, the parent of the tops, and how far these are moved
pub record TargetTree : Type 0 where
  pub prefix : List ℕ
  pub parent : List ℕ
  pub dx : ℤ
  pub dy : ℤ

-- 1 to 60 characters that may stand after the `:` of an id
abbrev pub is_prefix : List ℕ → Bool
is_prefix prefix = nat_lt 0 (length prefix) && (nat_le (length prefix) 60 && list_all is_unique_byte prefix)

-- what a copy and a paste are
pub record Clipping : Type 0 where
  -- the copy of some shapes of a document, or why there is none
  pub copied : Pairs → List (List ℕ) → Result ClipTree ClipFault
  -- the diff that pastes a clip into a document, or why there is none
  pub pasted : ClipTree → Pairs → TargetTree → Result RecordOps PasteFault
