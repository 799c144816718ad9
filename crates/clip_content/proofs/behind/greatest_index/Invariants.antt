use Rattle.std.proofs.Common.{◌≡◌, drop, option_map}
use Rattle.rooms_val.specs.View.{pairs_view}
use Rattle.clip_content.proofs.StandLemmas.{greatest_on}
use Rattle.side_effects.specs.Placed.{greatest_index}
use Rattle.clip_content.proofs.behind.greatest_index.Given as goal

abbrev pub invariant-records : goal.invariant-records
invariant-records l =
    greatest_on l.parent (option_map (λ t. t.now) l.greatest) (pairs_view (drop l.id-index l.id-items)) ≡ greatest_index (pairs_view l.id-items) l.parent
