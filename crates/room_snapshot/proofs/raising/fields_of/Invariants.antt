use Rattle.std.proofs.Common.{◌≡◌, ◌++◌}
use Rattle.room_snapshot.specs.Sorted.{sorted_view}
use Rattle.room_snapshot.proofs.raising.fields_of.Given as goal

abbrev pub invariant-sorted : goal.invariant-sorted
invariant-sorted l = l.fields ++ sorted_view l.id-iterator ≡ sorted_view l.sorted.entries
