use Rattle.std.proofs.Common.{◌≡◌, ℕ, List, IfOk, map, sym, ap, subst, ◌∙◌}
use Rattle.rooms_val.specs.View.{items_view}
use Rattle.shape_tree.specs.declared.place.Place as borrowed
use Rattle.shape_tree.specs.Records.{by_id}
use Rattle.shape_tree.specs.Index.{Place, places_view, IsIndex}
use Rattle.shape_tree.proofs.IndexLemmas.{children_of_index}
use Rattle.shape_tree.proofs.listing.children.Goals as goal

pub returns : goal.returns
returns c =
    let m = by_id (items_view c.args.records.now) in
    let is = subst (λ (ps : List borrowed.Place). IsIndex m (places_view ps)) (sym c.deref.ensures.value) c.in_ok-index.ensures in
    let same = ap (map (λ (p : Place). p.id)) c.siblings.ensures ∙ children_of_index c.args.parent.now m (places_view c.deref.result.now) is in
    subst (λ (ids : List (List ℕ)). IfOk c.ids_of.result (λ found. found.items ≡ ids)) same c.ids_of.ensures
