-- The laws of saved rooms, each the contract of a function of `laws.rt`.
use Rattle.std.specs.Prelude.{◌≡◌, ℕ, List, Result, IfOk, IfErr, MatchResult}
use Rattle.rooms_val.specs.Maps.{AreRising}
use Rattle.migrate_seq.specs.Versions.{Versions}
use Rattle.room_snapshot.specs.Saved.{SavedTree, saved_tree}
use Rattle.room_snapshot.specs.Lines.{line_val}
use Rattle.room_snapshot.specs.Readings.{IsLine, RefusesLine}
use Rattle.room_snapshot.specs.declared.fault.SnapFault.{SnapFault}
use Rattle.room_snapshot.specs.declared.fault.SnapFault.TheVariants as fault
use Rattle.room_snapshot.specs.declared.snapshot.Snapshot.{Snapshot}

-- each value is that of one saved room with one schema's versions at most, where the tombstones rise by id
abbrev pub OneRoomEach : Type 0
OneRoomEach = (s t : SavedTree) (a b : Versions) → AreRising s.tombstones → AreRising t.tombstones → line_val s a ≡ line_val t b → (s ≡ t) × (a ≡ b)

-- a result that keeps the contract of `read` is, for the line of a saved room, this room with its schema's versions, or
-- out of memory
abbrev pub ReadsTheLine : Type 0
ReadsTheLine = (bytes : List ℕ) (r : Result Snapshot SnapFault) → IfOk r (λ x. IsLine bytes (saved_tree x.saved) x.held) → IfErr r (RefusesLine bytes)
    → (s : SavedTree) (held : Versions) → IsLine bytes s held
    → MatchResult r (λ x. (saved_tree x.saved ≡ s) × (x.held ≡ held)) (λ f. f ≡ fault.OutOfMemory)
