use Rattle.std.proofs.Common.{◌≡◌, ◌++◌, drop}
use Rattle.migrate_seq.specs.Plans.{places_of}
use Rattle.migrate_seq.proofs.build.all_places.Given as goal

-- the places so far, and then those from here on
abbrev pub invariant-loop-index : goal.invariant-loop-index
invariant-loop-index l = places_of 0 l.sequences ≡ l.places.items ++ places_of l.index (drop l.index l.sequences)
