use Rattle.std.proofs.Common.{◌≡◌, ℕ, List, length}
use Rattle.rooms_val.specs.Maps.{AreRising}
use Rattle.field_ops.specs.RecordOps.{RecordOps}
use Rattle.client_replica.specs.Stashes.{AreCounted}
use Rattle.client_replica.specs.NewBases.{NamesWithin}
use Rattle.client_replica.specs.Owns.{settled}
use Rattle.client_replica.proofs.own.settle.Given as goal

abbrev pub invariant-ids : goal.invariant-ids
invariant-ids l =
    record {
      settles : (diffs : List RecordOps) → AreCounted diffs l.fn.names → NamesWithin diffs l.initial.stash → ((q : List ℕ) → settled diffs l.changes l.stash q ≡ settled diffs l.initial.changes l.initial.stash q) × NamesWithin diffs l.stash;
      rising : AreRising l.changes;
    }

abbrev pub decreases-ids : goal.decreases-ids
decreases-ids l = length l.changes
