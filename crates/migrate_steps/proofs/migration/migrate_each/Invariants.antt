use Rattle.std.proofs.Common.{◌≡◌, ◌++◌}
use Rattle.rooms_val.specs.View.{pairs_view}
use Rattle.migrate_steps.specs.Records.{raised_each}
use Rattle.migrate_steps.proofs.migration.migrate_each.Given as goal

-- the records so far were raised, and the others follow
abbrev pub invariant-records : goal.invariant-records
invariant-records l = record {
  so_far : l.after ≡ raised_each l.migration (pairs_view l.yielded);
  all : pairs_view (l.yielded ++ l.id-iterator.rest.items) ≡ l.fn.records;
}
