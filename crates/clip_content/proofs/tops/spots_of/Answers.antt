use Rattle.std.proofs.Common.{◌≡◌, ◌+◌, ◌-◌, ◌<◌, ℕ, List, ◌∷◌, drop, length, arith, sym, ap, subst, ◌∙◌}
use Rattle.rooms_val.specs.Data.{Data}
use Rattle.rooms_val.specs.Maps.{AreRising}
use Rattle.rooms_val.specs.View.{data_of, pairs_view}
use Rattle.rooms_val.proofs.DataLemmas.{rising_pairs}
use Rattle.shape_tree.specs.Sorting.{in_order}
use Rattle.shape_tree.specs.Trees.{sibling_order}
use Rattle.clip_content.specs.Pasted.{tops_among}
use Rattle.clip_content.specs.View.{clip_tree}
use Rattle.clip_content.proofs.KeptLemmas.{at_front, rising_drop}
use Rattle.clip_content.proofs.tops.spots_of.Goals as goal

pub shapes-preserved : goal.shapes-preserved
shapes-preserved c =
    let clip = clip_tree c.args.clip.now in
    let items = c.as_slice-shapes.result.now in
    let left = c.shapes.left in
    let before = c.shapes.left - 1 in
    let item = c.index-shapes-left.result in
    let done = pairs_view (drop left items) in
    let e : List ℕ × Data = (c.as_str.result.now, data_of item.1) in
    let within : before < length items = omega (arith, c.shapes.invariant.1, c.shapes-test.true) in
    let count : before + 1 ≡ left = omega (arith, c.shapes-test.true) in
    let id = c.as_str.ensures.bytes in
    let next : pairs_view (drop before items) ≡ e ∷ done =
    at_front pairs_view items before item within c.index-shapes-left.is ∙ (λ i. (sym id i, data_of item.1) ∷ pairs_view (drop (count i) items)) in
    let rising = subst AreRising next (rising_drop before items (subst AreRising (sym c.as_slice-shapes.ensures.pairs) (rising_pairs clip.shapes c.as_slice-shapes.ensures.sound))) in
    (c.in_ok-add_top.ensures done rising c.shapes.invariant.0 ∙ ap (λ es. in_order sibling_order (tops_among clip es)) (sym next), omega (arith, c.shapes.invariant.1))
