use Rattle.std.proofs.Common.{◌≡◌, ◌++◌, ◌-◌}
use Rattle.migrate_seq.specs.Plans.{places_from}
use Rattle.migrate_seq.proofs.plan.push_places.Given as goal

-- the places so far, and then those from here on
abbrev pub invariant-loop-migration : goal.invariant-loop-migration
invariant-loop-migration l =
    l.initial.places.items ++ places_from l.sequence l.first (l.end - l.first) ≡ l.places.items ++ places_from l.sequence l.migration (l.end - l.migration)
