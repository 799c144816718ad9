use Rattle.std.proofs.Common.{◌≡◌, map, take}
use Rattle.shape_tree.proofs.listing.ids_of.Given as goal

abbrev pub invariant-places : goal.invariant-places
invariant-places l = l.ids.items ≡ map (λ p. p.id.now) (take l.place-index l.places)
