use Rattle.std.proofs.Common.{◌≡◌, ◌++◌, map, drop}
use Rattle.rooms_val.specs.View.{pairs_view}
use Rattle.room_history.specs.Clocks.{number_of}
use Rattle.room_history.specs.Saving.{clocks_of}
use Rattle.room_history.proofs.saving.tombstones.Given as goal

abbrev pub invariant-removals : goal.invariant-removals
invariant-removals l = clocks_of l.tombs.items ++ map (λ p. (p.0, number_of p.1)) (pairs_view (drop l.id-index l.id-items)) ≡ map (λ p. (p.0, number_of p.1)) (pairs_view l.id-items)
