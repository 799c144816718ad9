use Rattle.std.proofs.Common.{map, ap, ◌∙◌, arith}
use Rattle.std.proofs.lemmas.List.{take_all}
use Rattle.shape_tree.specs.declared.place.Place as borrowed
use Rattle.shape_tree.proofs.IndexLemmas.{ids_view}
use Rattle.shape_tree.proofs.listing.ids_of.Goals as goal

pub returns : goal.returns
returns c =
    c.places.invariant ∙ ap (map (λ (p : borrowed.Place). p.id.now)) (take_all c.places.place-index c.args.places.now (omega arith)) ∙ ids_view c.args.places.now
