use Rattle.std.proofs.Common.{◌≡◌, ◌-◌, List, length, take, drop, rules, sym, ap, subst, ◌∙◌, true, false}
use Rattle.std.specs.List.Sorted.{IsPartitionedBy, IsPartitionPoint}
use Rattle.std.proofs.lemmas.List.{take_rest}
use Rattle.std.proofs.lemmas.List.Sorted.{IsPartitionPoint-from_clause}
use Rattle.shape_tree.specs.declared.place.Place.{Place}
use Rattle.shape_tree.specs.Index.{places_view}
use Rattle.shape_tree.proofs.PartsLemmas.{is_below, is_upto, parted_below, parted_upto, part_under, rises-drop}
use Rattle.shape_tree.proofs.index.siblings.Goals as goal

pub returns : goal.returns
returns c =
    let all = c.args.index.now in
    let parent = c.args.parent.now in
    let start = c.partition_point-start.result in
    let end = c.partition_point-end.result in
    let rest = take (length all - start) (drop start all) in
    let same : rest ≡ drop start all = take_rest all start in
    let below = IsPartitionPoint-from_clause (is_below parent) all start c.partition_point-start.ensures.partitioned (parted_below parent all c.requires) (λ a r q called. search rules) in
    let rises = subst (λ (ps : List Place). IsPartitionedBy (is_upto parent) ps) (sym same) (parted_upto parent (drop start all) (rises-drop parent all start c.requires)) in
    let upto = IsPartitionPoint-from_clause (is_upto parent) rest end c.partition_point-end.ensures.partitioned rises (λ a r q called. search rules) in
    let upto_rest = subst (λ (ps : List Place). IsPartitionPoint (λ p. is_upto parent p ≡ true) (λ p. is_upto parent p ≡ false) ps end) same upto in
    ap (λ ps. places_view (take end ps)) same ∙ sym (part_under parent all start end below upto_rest)
