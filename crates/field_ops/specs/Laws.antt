-- The laws of operations, each the contract of a function of `laws.rt`.
use Rattle.std.specs.Prelude.{◌≡◌, ℕ, List, Option, Some, None, false}
use Rattle.std.specs.Option.{option_and_then}
use Rattle.rooms_val.specs.Data.{Data, Pairs, IsSoundRecord}
use Rattle.rooms_val.specs.Maps.{AreRising, value_at}
use Rattle.field_ops.specs.ValueOps.{Patch, edits_of}
use Rattle.field_ops.specs.RecordOps.{RecordOpTree, RecordOps, has_append, IsSoundChange}
use Rattle.field_ops.specs.Patched.{patched, value_after, raw}
use Rattle.field_ops.specs.Inverses.{undo, inverted, inverse}
use Rattle.field_ops.specs.Compose.{both, edit_after, in_turn}
use Rattle.field_ops.specs.WireRecordOps.{change_data, diff_data}

-- the record after an operation, or as it is where there is none
abbrev pub raw_after : Option RecordOpTree → Option Data → Option Data
raw_after None r = r
raw_after (Some c) r = raw c r

-- each key of a patched map has what the key's operation makes of its value
abbrev pub PatchesByKey : Type 0
PatchesByKey = (p : Patch) (f : Pairs) (k : List ℕ) → value_at (patched (edits_of p) f) k ≡ value_after (value_at p k) (value_at f k)

-- the patch that brings a map back has at each key what undoes the key's operation, and nothing where that does nothing; its
-- keys rise
abbrev pub InvertsByKey : Type 0
InvertsByKey = (p : Patch) (f : Pairs) → AreRising (inverted (edits_of p) f)
    × ((k : List ℕ) → value_at (inverted (edits_of p) f) k ≡ option_and_then (λ e. undo e (value_at f k)) (value_at p k))

-- the one patch that does two in turn has at each key the one operation that does both of the key; its keys rise as those of
-- the first
abbrev pub ComposesByKey : Type 0
ComposesByKey = (p q : Patch) → (AreRising p → AreRising (both (edits_of q) p))
    × ((k : List ℕ) → value_at (both (edits_of q) p) k ≡ edit_after (value_at q k) (value_at p k))

-- an operation and then its inverse leave a record as it was
abbrev pub InverseBringsBack : Type 0
InverseBringsBack = (c : RecordOpTree) (r : Option Data) → IsSoundRecord r → raw_after (inverse c r) (raw c r) ≡ r

-- one operation does what two do in turn, where neither has an append
abbrev pub InTurnDoesBoth : Type 0
InTurnDoesBoth = (a b : RecordOpTree) (r : Option Data) → has_append a ≡ false → has_append b ≡ false → IsSoundRecord r → raw (in_turn a b) r ≡ raw b (raw a r)

-- a sound operation leaves a sound record sound
abbrev pub RawIsSound : Type 0
RawIsSound = (c : RecordOpTree) (r : Option Data) → IsSoundChange c → IsSoundRecord r → IsSoundRecord (raw c r)

-- each value is that of one operation at most
abbrev pub OneOperationEach : Type 0
OneOperationEach = (a b : RecordOpTree) → change_data a ≡ change_data b → a ≡ b

-- each value is that of one diff at most
abbrev pub OneDiffEach : Type 0
OneDiffEach = (a b : RecordOps) → diff_data a ≡ diff_data b → a ≡ b
