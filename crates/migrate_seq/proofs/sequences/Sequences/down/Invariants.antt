use Rattle.std.proofs.Common.{◌≡◌, ◌≤◌, drop, length}
use Rattle.rooms_val.specs.View.{data_of}
use Rattle.migrate_seq.specs.Plans.{migrations_at}
use Rattle.migrate_steps.specs.Records.{lowered_along}
use Rattle.migrate_seq.proofs.sequences.Sequences.down.Given as goal

-- the migrations from here on were run down
abbrev pub invariant-places : goal.invariant-places
invariant-places l =
    (l.left ≤ length l.places) × (data_of l.after ≡ lowered_along (migrations_at l.self.sequences.items (drop l.left l.places)) (data_of l.stored))

abbrev pub decreases-places : goal.decreases-places
decreases-places l = l.left
