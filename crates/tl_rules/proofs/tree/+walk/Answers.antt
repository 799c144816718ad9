use Rattle.std.proofs.Common.{◌+◌, ◌++◌, List, ℕ, drop, ap, sym, ◌∙◌, subst, arith}
use Rattle.std.proofs.lemmas.List.{drop_all}
use Rattle.tl_rules.specs.Ids.{flat}
use Rattle.tl_rules.specs.Trees.{below}
use Rattle.tl_rules.specs.Walks.{ids_view, id_view, room}
use Rattle.rooms_val.proofs.ListLemmas.{one_off}
use Rattle.tl_rules.proofs.PartLemmas.{flat_off}
use Rattle.tl_rules.proofs.WalkLemmas.{LeadsTo, below_none, below_needed, below_listed, walk_starts, walk_full, walk_done, walk_needs, walk_more, ids_pushed, ids_count, nil_from_length}
use Rattle.tl_rules.proofs.tree.+walk.Goals as goal

pub list_below-returns-then-levels-eq0 : goal.list_below-returns-then-levels-eq0
list_below-returns-then-levels-eq0 t c =
    below_none c.args.levels (room (ids_view c.args.walk.now.ids.items)) c.args.parent.now (ids_view c.args.walk.now.ids.items) c.args.walk.now.rest.now c.if-levels-eq0.true

pub list_below-returns-in_default : goal.list_below-returns-in_default
list_below-returns-in_default t c =
    below_needed c.args.levels (room (ids_view c.args.walk.now.ids.items)) c.args.parent.now (ids_view c.args.walk.now.ids.items) (ids_view c.args.walk.now.ids.items) c.args.walk.now.rest.now c.args.walk.now.rest.now
    (omega (arith, c.if-levels-eq0.false)) (nil_from_length c.args.walk.now.rest.now c.in_default.ensures.cases)

pub list_below-returns : goal.list_below-returns
list_below-returns t c =
    below_listed c.args.levels (room (ids_view c.args.walk.now.ids.items)) c.args.parent.now c.in-Some.first.now c.args.walk.now.rest.now c.in-Some.rest.now (ids_view c.args.walk.now.ids.items) (ids_view c.list_each.new.walk.ids.items)
    c.list_each.new.walk.rest.now (id_view c.in_ok-need.need) (flat c.parts.result.now) c.parts.ensures (omega (arith, c.if-levels-eq0.false)) c.in-Some.ensures.cases.0 c.in_ok-need.ensures

pub list_each-returns-then-len-ge-MOST_SHAPES : goal.list_each-returns-then-len-ge-MOST_SHAPES
list_each-returns-then-len-ge-MOST_SHAPES t c =
    let count = ids_count c.children.walk.ids.items in
    walk_full (λ id. id) (below c.args.levels) (drop c.children.child-index c.as_slice-child-items.result.now ++ flat (drop (c.parts.part-index + 1) c.args.parts.now)) (flat c.args.parts.now) (ids_view c.children.walk.ids.items) (ids_view c.args.walk.now.ids.items) c.children.walk.rest.now c.args.walk.now.rest.now c.children.invariant
    (omega (arith, c.len.ensures, c.if-len-ge-MOST_SHAPES.true))

pub list_each-returns-in-Some : goal.list_each-returns-in-Some
list_each-returns-in-Some t c =
    let count = ids_count c.children.walk.ids.items in
    walk_needs (λ id. id) (below c.args.levels) (drop c.children.child-index c.as_slice-child-items.result.now ++ flat (drop (c.parts.part-index + 1) c.args.parts.now)) (flat c.args.parts.now) (ids_view c.children.walk.ids.items) (ids_view c.args.walk.now.ids.items) c.children.walk.rest.now c.args.walk.now.rest.now c.children.invariant
    c.child-item.result (drop (c.children.child-index + 1) c.as_slice-child-items.result.now ++ flat (drop (c.parts.part-index + 1) c.args.parts.now)) (ap (λ l. l ++ flat (drop (c.parts.part-index + 1) c.args.parts.now)) (one_off c.as_slice-child-items.result.now c.children.child-index c.child-item.result c.children-test.true c.child-item.is))
    (omega (arith, c.len.ensures, c.if-len-ge-MOST_SHAPES.false))
    (ids_view c.push.new.self.items) (ids_pushed c.children.walk.ids.items c.push.new.self.items _ c.in_ok-push.ensures.items)
    (ids_view c.list_below.new.walk.ids.items) (ids_view c.list_below.new.walk.ids.items) c.list_below.new.walk.rest.now c.list_below.new.walk.rest.now c.in-Some.need.now (id_view c.in_ok-need.field-0) (ap id_view c.in-Some.is) c.in_ok-need.ensures

pub list_each-parts-init : goal.list_each-parts-init
list_each-parts-init t c = walk_starts (λ id. id) (below c.args.levels) (flat c.args.parts.now) (ids_view c.args.walk.now.ids.items) c.args.walk.now.rest.now

-- a part is next
pub list_each-children-init : goal.list_each-children-init
list_each-children-init t c =
    subst (λ (xs : List (List ℕ)). LeadsTo (λ id. id) (below c.args.levels) xs (flat c.args.parts.now) (ids_view c.parts.walk.ids.items) (ids_view c.args.walk.now.ids.items) c.parts.walk.rest.now c.args.walk.now.rest.now)
    (flat_off c.args.parts.now c.parts.part-index c.part-item.result c.parts-test.true c.part-item.is ∙ ap (λ l. l ++ flat (drop (c.parts.part-index + 1) c.args.parts.now)) (sym c.as_slice-child-items.ensures)) c.parts.invariant

pub list_each-children-preserved : goal.list_each-children-preserved
list_each-children-preserved t c =
    let count = ids_count c.children.walk.ids.items in
    walk_more (λ id. id) (below c.args.levels) (drop c.children.child-index c.as_slice-child-items.result.now ++ flat (drop (c.parts.part-index + 1) c.args.parts.now)) (flat c.args.parts.now) (ids_view c.children.walk.ids.items) (ids_view c.args.walk.now.ids.items) c.children.walk.rest.now c.args.walk.now.rest.now c.children.invariant
    c.child-item.result (drop (c.children.child-index + 1) c.as_slice-child-items.result.now ++ flat (drop (c.parts.part-index + 1) c.args.parts.now)) (ap (λ l. l ++ flat (drop (c.parts.part-index + 1) c.args.parts.now)) (one_off c.as_slice-child-items.result.now c.children.child-index c.child-item.result c.children-test.true c.child-item.is))
    (omega (arith, c.len.ensures, c.if-len-ge-MOST_SHAPES.false))
    (ids_view c.push.new.self.items) (ids_pushed c.children.walk.ids.items c.push.new.self.items _ c.in_ok-push.ensures.items)
    (ids_view c.list_below.new.walk.ids.items) c.list_below.new.walk.rest.now (id_view c.in_ok-need.field-0) (ap id_view c.in_default.is) c.in_ok-need.ensures

-- a part is done
pub list_each-parts-preserved : goal.list_each-parts-preserved
list_each-parts-preserved t c =
    subst (λ (l : List (List ℕ)). LeadsTo (λ id. id) (below c.args.levels) (l ++ flat (drop (c.parts.part-index + 1) c.args.parts.now)) (flat c.args.parts.now) (ids_view c.children.walk.ids.items) (ids_view c.args.walk.now.ids.items) c.children.walk.rest.now c.args.walk.now.rest.now)
    (drop_all c.children.child-index c.as_slice-child-items.result.now (omega arith)) c.children.invariant

pub list_each-returns : goal.list_each-returns
list_each-returns t c =
    walk_done (λ id. id) (below c.args.levels) (flat (drop c.parts.part-index c.args.parts.now)) (flat c.args.parts.now) (ids_view c.parts.walk.ids.items) (ids_view c.args.walk.now.ids.items) c.parts.walk.rest.now c.args.walk.now.rest.now c.parts.invariant
    (ap flat (drop_all c.parts.part-index c.args.parts.now (omega arith)))
