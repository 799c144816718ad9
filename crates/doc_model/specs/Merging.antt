-- The one diff that does several diffs in turn.
use Rattle.std.specs.Prelude.{ℕ, List, [], ◌∷◌, Option, Some, None}
use Rattle.field_ops.specs.RecordOps.{RecordOpTree, RecordOps}
use Rattle.rooms_val.specs.Maps.{value_at, set_at}
use Rattle.field_ops.specs.Compose.{in_turn}

-- the operation that does a first and then a second one, where either may be missing
abbrev pub both_in_turn : Option RecordOpTree → Option RecordOpTree → Option RecordOpTree
both_in_turn None second = second
both_in_turn (Some c) None = Some c
both_in_turn (Some c) (Some d) = Some (in_turn c d)

-- a first diff and then a second one as one diff: at each id what both have there, in turn
abbrev pub diff_after : RecordOps → RecordOps → RecordOps
diff_after first [] = first
diff_after first (c ∷ second) = set_at (diff_after first second) c.0 (both_in_turn (value_at first c.0) (Some c.1))

-- diffs, listed the oldest first, as one diff that does the newest first
abbrev pub merge : List RecordOps → RecordOps
merge [] = []
merge (diff ∷ newer) = diff_after (merge newer) diff

-- the operations of such diffs at one id, as one operation that does the newest first; none where no diff names the id
abbrev pub merged_at : List RecordOps → List ℕ → Option RecordOpTree
merged_at [] id = None
merged_at (diff ∷ newer) id = both_in_turn (merged_at newer id) (value_at diff id)
