use Rattle.std.proofs.Common.{◌≡◌, List, ◌++◌, map, sym, ap, ◌∙◌}
use Rattle.std.proofs.lemmas.List.{append-nil}
use Rattle.shape_tree.specs.Trees.{Sibling}
use Rattle.clip_content.specs.declared.tops.Spot.{Spot}
use Rattle.clip_content.proofs.TopLemmas.{ids_at}
use Rattle.clip_content.proofs.tops.tops.Goals as goal

pub returns : goal.returns
returns c =
    let gives : c.into_iter-spot-iterator.result ≡ c.in_ok-spots.spots.keys = c.into_iter-spot-iterator.ensures.into_iter_gives.0 in
    sym (append-nil c.spots.ids.items)
    ∙ ap (λ (ss : List Spot). c.spots.ids.items ++ map (λ s. s.id.now) ss) (sym c.in-None.ensures.steps.0)
    ∙ c.spots.invariant
    ∙ ap (λ (ss : List Spot). map (λ s. s.id.now) ss) gives
    ∙ ids_at c.in_ok-spots.spots.keys
    ∙ ap (map (λ (s : Sibling). s.id)) c.in_ok-spots.ensures
