use Rattle.std.proofs.Common.{◌≤◌, ◌-◌, length, take, drop, sym, ap, ◌∙◌, arith}
use Rattle.std.proofs.lemmas.List.{take_all, take-append-drop, map-append}
use Rattle.shape_tree.specs.declared.place.Place as borrowed
use Rattle.shape_tree.specs.Trees.{most_shapes}
use Rattle.shape_tree.specs.Index.{places_view}
use Rattle.shape_tree.proofs.IndexLemmas.{children_of_part}
use Rattle.shape_tree.proofs.ListingLemmas.{ids_at, listed_to, listed_none, listed_step, listed_full, listed_all, nothing_below}
use Rattle.shape_tree.proofs.listing.+list_below.Goals as goal

pub returns-then-levels-eq0-clause-listed : goal.returns-then-levels-eq0-clause-listed
returns-then-levels-eq0-clause-listed t c =
    let room : length c.args.ids.now.items ≤ most_shapes = omega (arith, c.requires.1.1.1) in λ m is. nothing_below most_shapes c.args.levels m c.args.parent.now c.args.ids.now.items c.if-levels-eq0.true room

pub children-init : goal.children-init
children-init t c =
    let room : length c.args.ids.now.items ≤ most_shapes = omega (arith, c.requires.1.1.1) in (c.requires.1.1.1, λ m is. listed_none most_shapes (c.args.levels - 1) m c.args.ids.now.items room)

pub returns-then-len-ge-MOST_SHAPES-clause-listed : goal.returns-then-len-ge-MOST_SHAPES-clause-listed
returns-then-len-ge-MOST_SHAPES-clause-listed t c = λ m is.
    let part = c.siblings-place-items.result.now in
    let i = c.children.place-index in
    let before = c.args.ids.now.items in
    let ids = c.children.ids.items in
    let full : most_shapes ≤ length ids = omega (arith, c.len.ensures, c.if-len-ge-MOST_SHAPES.true) in
    let all = sym (map-append (λ (p : borrowed.Place). p.id.now) (take i part) (drop i part)) ∙ ap ids_at (take-append-drop i part) ∙ children_of_part m (places_view c.args.index.now) c.args.parent.now part is c.siblings-place-items.ensures in
    listed_all most_shapes c.args.levels m c.args.parent.now before ids (omega arith)
    (listed_full most_shapes (c.args.levels - 1) m before (ids_at (take i part)) (ids_at (drop i part)) ids (c.children.invariant.1 m is) full ∙ ap (listed_to most_shapes (c.args.levels - 1) m before) all)

pub children-preserved : goal.children-preserved
children-preserved t c = (c.in_ok-list_below.ensures.room, λ m is. listed_step most_shapes (c.args.levels - 1) m c.args.ids.now.items c.siblings-place-items.result.now c.children.place-index _ c.children.ids.items c.push.new.self.items c.list_below.new.ids.items c.in_ok-of.field-0 c.children-test.true (c.children.invariant.1 m is) c.in_ok-of.ensures c.in_ok-push.ensures.items (c.in_ok-list_below.ensures.listed m is))

pub returns-clause-listed : goal.returns-clause-listed
returns-clause-listed t c = λ m is.
    let part = c.siblings-place-items.result.now in
    let before = c.args.ids.now.items in
    let all = ap ids_at (take_all c.children.place-index part (omega arith)) ∙ children_of_part m (places_view c.args.index.now) c.args.parent.now part is c.siblings-place-items.ensures in
    listed_all most_shapes c.args.levels m c.args.parent.now before c.children.ids.items (omega arith) (c.children.invariant.1 m is ∙ ap (listed_to most_shapes (c.args.levels - 1) m before) all)
