use Rattle.std.proofs.Common.{◌≡◌, ◌≤◌, ◌-◌, map, take, vec_len}
use Rattle.rooms_val.specs.Data.{Pairs}
use Rattle.shape_tree.specs.Trees.{most_shapes}
use Rattle.shape_tree.specs.Index.{places_view, IsIndex}
use Rattle.shape_tree.proofs.ListingLemmas.{listed_to}
use Rattle.shape_tree.proofs.listing.+list_below.Given as goal

abbrev pub decreases-list_below : goal.decreases-list_below
decreases-list_below l = l.levels

abbrev pub invariant-children : goal.invariant-children
invariant-children l =
    (vec_len l.ids ≤ most_shapes)
    × ((m : Pairs) → IsIndex m (places_view l.index) → l.ids.items ≡ listed_to most_shapes (l.levels - 1) m l.initial.ids.items (map (λ p. p.id.now) (take l.place-index l.place-items)))
