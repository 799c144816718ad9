use Rattle.std.proofs.Common.{◌≡◌, ◌+◌, ◌++◌, drop, length, ap, sym, ◌∙◌, subst, List, ℕ, arith, length-append}
use Rattle.std.specs.List.{zip}
use Rattle.std.proofs.lemmas.List.{drop_all}
use Rattle.tl_rules.specs.Answers.{ids_in}
use Rattle.tl_rules.specs.Ids.{flat}
use Rattle.tl_rules.specs.Plans.{place_after}
use Rattle.tl_rules.specs.Trees.{each, below}
use Rattle.tl_rules.specs.Walks.{ids_view, id_view, room, HasWalked}
use Rattle.rooms_val.proofs.ListLemmas.{one_off}
use Rattle.tl_rules.proofs.PartLemmas.{flat_off, nothing_left}
use Rattle.tl_rules.proofs.WalkLemmas.{LeadsTo, walk_full, walk_done, walk_needs, walk_more, ids_pushed, ids_count, known_off}
use Rattle.tl_rules.proofs.tree.list_known.Goals as goal

-- a part is next
pub children-init : goal.children-init
children-init c =
    subst (λ (xs : List (List ℕ)). LeadsTo (λ x. x.0) (λ free x. each (λ id. id) (below c.args.levels) free (ids_in x.1)) (zip xs c.parts.left.now) (zip (flat c.args.parts.now) c.args.known.now) (ids_view c.parts.walk.ids.items) (ids_view c.args.walk.now.ids.items) c.parts.walk.rest.now c.args.walk.now.rest.now × (length c.parts.left.now ≡ length xs))
    (flat_off c.args.parts.now c.parts.part-index c.part-item.result c.parts-test.true c.part-item.is ∙ ap (λ l. l ++ flat (drop (c.parts.part-index + 1) c.args.parts.now)) (sym c.as_slice-child-items.ensures)) c.parts.invariant

-- each child has an answer
pub unreachable-requires : goal.unreachable-requires
unreachable-requires c =
    nothing_left (drop c.children.child-index c.as_slice-child-items.result.now) (drop (c.children.child-index + 1) c.as_slice-child-items.result.now) (flat (drop (c.parts.part-index + 1) c.args.parts.now)) c.child-item.result (length c.children.left.now)
    (one_off c.as_slice-child-items.result.now c.children.child-index c.child-item.result c.children-test.true c.child-item.is) c.children.invariant.1 c.in_default.ensures.cases

pub returns-then-len-ge-MOST_SHAPES : goal.returns-then-len-ge-MOST_SHAPES
returns-then-len-ge-MOST_SHAPES c =
    let count = ids_count c.children.walk.ids.items in
    walk_full (λ x. x.0) (λ free x. each (λ id. id) (below c.args.levels) free (ids_in x.1)) (zip (drop c.children.child-index c.as_slice-child-items.result.now ++ flat (drop (c.parts.part-index + 1) c.args.parts.now)) c.children.left.now) (zip (flat c.args.parts.now) c.args.known.now) (ids_view c.children.walk.ids.items) (ids_view c.args.walk.now.ids.items) c.children.walk.rest.now c.args.walk.now.rest.now c.children.invariant.0
    (omega (arith, c.len.ensures, c.if-len-ge-MOST_SHAPES.true))

pub returns-in-Some-2 : goal.returns-in-Some-2
returns-in-Some-2 c =
    let count = ids_count c.children.walk.ids.items in
    walk_needs (λ x. x.0) (λ free x. each (λ id. id) (below c.args.levels) free (ids_in x.1)) (zip (drop c.children.child-index c.as_slice-child-items.result.now ++ flat (drop (c.parts.part-index + 1) c.args.parts.now)) c.children.left.now) (zip (flat c.args.parts.now) c.args.known.now) (ids_view c.children.walk.ids.items) (ids_view c.args.walk.now.ids.items) c.children.walk.rest.now c.args.walk.now.rest.now c.children.invariant.0
    (c.child-item.result, c.in-Some.row.now) (zip (drop (c.children.child-index + 1) c.as_slice-child-items.result.now ++ flat (drop (c.parts.part-index + 1) c.args.parts.now)) c.in-Some.others.now)
    (known_off (drop c.children.child-index c.as_slice-child-items.result.now) (drop (c.children.child-index + 1) c.as_slice-child-items.result.now) (flat (drop (c.parts.part-index + 1) c.args.parts.now)) c.child-item.result c.children.left.now c.in-Some.others.now c.in-Some.row.now (one_off c.as_slice-child-items.result.now c.children.child-index c.child-item.result c.children-test.true c.child-item.is) c.in-Some.ensures.cases.0)
    (omega (arith, c.len.ensures, c.if-len-ge-MOST_SHAPES.false))
    (ids_view c.push.new.self.items) (ids_pushed c.children.walk.ids.items c.push.new.self.items _ c.in_ok-push.ensures.items)
    (ids_view c.list_each.new.walk.ids.items) (ids_view c.list_each.new.walk.ids.items) c.list_each.new.walk.rest.now c.list_each.new.walk.rest.now c.in-Some-2.need.now (id_view c.in_ok-need.field-0) (ap id_view c.in-Some-2.is)
    (subst (λ (l : List (List ℕ)). HasWalked (place_after (each (λ id. id) (below c.args.levels) (room (ids_view c.push.new.self.items)) l) c.children.walk.rest.now) (ids_view c.push.new.self.items) (ids_view c.list_each.new.walk.ids.items) c.list_each.new.walk.rest.now (id_view c.in_ok-need.field-0)) c.parts-in-children.ensures c.in_ok-need.ensures)

pub children-preserved : goal.children-preserved
children-preserved c =
    let count = ids_count c.children.walk.ids.items in
    let off = one_off c.as_slice-child-items.result.now c.children.child-index c.child-item.result c.children-test.true c.child-item.is in (
      walk_more (λ x. x.0) (λ free x. each (λ id. id) (below c.args.levels) free (ids_in x.1)) (zip (drop c.children.child-index c.as_slice-child-items.result.now ++ flat (drop (c.parts.part-index + 1) c.args.parts.now)) c.children.left.now) (zip (flat c.args.parts.now) c.args.known.now) (ids_view c.children.walk.ids.items) (ids_view c.args.walk.now.ids.items) c.children.walk.rest.now c.args.walk.now.rest.now c.children.invariant.0
          (c.child-item.result, c.in-Some.row.now) (zip (drop (c.children.child-index + 1) c.as_slice-child-items.result.now ++ flat (drop (c.parts.part-index + 1) c.args.parts.now)) c.in-Some.others.now)
          (known_off (drop c.children.child-index c.as_slice-child-items.result.now) (drop (c.children.child-index + 1) c.as_slice-child-items.result.now) (flat (drop (c.parts.part-index + 1) c.args.parts.now)) c.child-item.result c.children.left.now c.in-Some.others.now c.in-Some.row.now (one_off c.as_slice-child-items.result.now c.children.child-index c.child-item.result c.children-test.true c.child-item.is) c.in-Some.ensures.cases.0)
          (omega (arith, c.len.ensures, c.if-len-ge-MOST_SHAPES.false))
          (ids_view c.push.new.self.items) (ids_pushed c.children.walk.ids.items c.push.new.self.items _ c.in_ok-push.ensures.items)
          (ids_view c.list_each.new.walk.ids.items) c.list_each.new.walk.rest.now (id_view c.in_ok-need.field-0) (ap id_view c.in_default-2.is)
          (subst (λ (l : List (List ℕ)). HasWalked (place_after (each (λ id. id) (below c.args.levels) (room (ids_view c.push.new.self.items)) l) c.children.walk.rest.now) (ids_view c.push.new.self.items) (ids_view c.list_each.new.walk.ids.items) c.list_each.new.walk.rest.now (id_view c.in_ok-need.field-0)) c.parts-in-children.ensures c.in_ok-need.ensures),
      omega (arith, c.children.invariant.1, ap length c.in-Some.ensures.cases.0, ap length off, length-append (drop c.children.child-index c.as_slice-child-items.result.now) (flat (drop (c.parts.part-index + 1) c.args.parts.now)), length-append (drop (c.children.child-index + 1) c.as_slice-child-items.result.now) (flat (drop (c.parts.part-index + 1) c.args.parts.now))),
    )

-- a part is done
pub parts-preserved : goal.parts-preserved
parts-preserved c =
    subst (λ (l : List (List ℕ)). LeadsTo (λ x. x.0) (λ free x. each (λ id. id) (below c.args.levels) free (ids_in x.1)) (zip (l ++ flat (drop (c.parts.part-index + 1) c.args.parts.now)) c.children.left.now) (zip (flat c.args.parts.now) c.args.known.now) (ids_view c.children.walk.ids.items) (ids_view c.args.walk.now.ids.items) c.children.walk.rest.now c.args.walk.now.rest.now × (length c.children.left.now ≡ length (l ++ flat (drop (c.parts.part-index + 1) c.args.parts.now))))
    (drop_all c.children.child-index c.as_slice-child-items.result.now (omega arith)) c.children.invariant

pub returns : goal.returns
returns c =
    walk_done (λ x. x.0) (λ free x. each (λ id. id) (below c.args.levels) free (ids_in x.1)) (zip (flat (drop c.parts.part-index c.args.parts.now)) c.parts.left.now) (zip (flat c.args.parts.now) c.args.known.now) (ids_view c.parts.walk.ids.items) (ids_view c.args.walk.now.ids.items) c.parts.walk.rest.now c.args.walk.now.rest.now c.parts.invariant.0
    (ap (λ l. zip (flat l) c.parts.left.now) (drop_all c.parts.part-index c.args.parts.now (omega arith)))
