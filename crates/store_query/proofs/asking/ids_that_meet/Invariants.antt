use Rattle.std.proofs.Common.{◌≡◌}
use Rattle.std.specs.Prelude.{filter}
use Rattle.store_query.specs.Asking.{meets_at}
use Rattle.store_query.proofs.asking.ids_that_meet.Given as goal

abbrev pub invariant-ids : goal.invariant-ids
invariant-ids g l = l.found.items ≡ filter (meets_at (g.D.DocStore.records l.store) l.query) l.yielded
