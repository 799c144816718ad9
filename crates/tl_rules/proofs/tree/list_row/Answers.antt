use Rattle.std.proofs.Common.{◌∙◌, List, ℕ, length, take, drop, ap, subst, slice_get, arith}
use Rattle.tl_rules.specs.Answers.{ids_in}
use Rattle.tl_rules.specs.Plans.{place_after}
use Rattle.tl_rules.specs.Trees.{below_known}
use Rattle.tl_rules.specs.Walks.{ids_view, id_view, room, HasWalked}
use Rattle.tl_rules.proofs.WalkLemmas.{row_needed_there, row_known}
use Rattle.tl_rules.proofs.tree.list_row.Goals as goal

pub returns-then-walk-count : goal.returns-then-walk-count
returns-then-walk-count c =
    row_needed_there 30 (room (ids_view c.args.walk.now.ids.items)) (ids_in c.args.row.now) c.args.walk.now.rest.now (ids_view c.args.walk.now.ids.items) (ids_view c.args.walk.now.ids.items) c.args.walk.now.rest.now
    (id_view c.id_at.result) (omega (arith, c.count.ensures, c.if-count-gt-MOST_AT_ONCE.false)) (omega (arith, c.count-2.ensures, c.if-walk-count.true))
    (c.id_at.ensures ∙ ap (λ l. slice_get l (length c.args.walk.now.rest.now)) c.parts-children.ensures)

pub returns : goal.returns
returns c =
    row_known 30 (room (ids_view c.args.walk.now.ids.items)) (ids_in c.args.row.now) c.args.walk.now.rest.now (ids_view c.args.walk.now.ids.items) (ids_view c.list_known.new.walk.ids.items) c.list_known.new.walk.rest.now
    (id_view c.in_ok-need-2.need) c.split_at.result.0.now c.split_at.result.1.now (omega (arith, c.count.ensures, c.if-count-gt-MOST_AT_ONCE.false)) (omega (arith, c.count-2.ensures, c.if-walk-count.false))
    (c.split_at.ensures.front ∙ ap (λ n. take n c.args.walk.now.rest.now) c.count-3.ensures) (c.split_at.ensures.back ∙ ap (λ n. drop n c.args.walk.now.rest.now) c.count-3.ensures)
    (subst (λ (l : List (List ℕ)). HasWalked (place_after (below_known 30 (room (ids_view c.args.walk.now.ids.items)) l c.split_at.result.0.now) c.split_at.result.1.now) (ids_view c.args.walk.now.ids.items) (ids_view c.list_known.new.walk.ids.items) c.list_known.new.walk.rest.now (id_view c.in_ok-need-2.need)) c.parts-children.ensures c.in_ok-need-2.ensures)
