use Rattle.std.proofs.Common.{◌≡◌, ◌++◌}
use Rattle.shape_tree.specs.View.{pairs_view}
use Rattle.shape_tree.specs.Index.{places, places_view}
use Rattle.shape_tree.proofs.index.places_of.Given as goal

abbrev pub invariant-records : goal.invariant-records
invariant-records l = places_view l.found.items ++ places (pairs_view l.id-iterator) ≡ places (pairs_view l.records.entries)
