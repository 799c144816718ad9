use Rattle.std.proofs.Common.{sym, ap, subst, ◌∙◌}
use Rattle.rooms_val.specs.Data.{Pairs}
use Rattle.rooms_val.specs.Maps.{value_at, set_at}
use Rattle.field_ops.specs.View.{maybe_data}
use Rattle.tl_rules.specs.declared.listing.Listing.TheVariants.{Children, BoundFrom, BoundTo}
use Rattle.record_store.specs.Lists.{records_of, AreLists}
use Rattle.record_store.proofs.FrameLemmas.{in_turn, wider, on_ok}
use Rattle.record_store.proofs.ListLemmas.{lists_unmoved, same_moved, has_moved, each_kind, from_to, children_from, children_to, to_from, from_children, to_children}
use Rattle.record_store.proofs.lists.relist_all.Goals as goal

pub relist-requires-clause-lists : goal.relist-requires-clause-lists
relist-requires-clause-lists c = c.requires.lists Children

pub relist-requires-2-clause-records : goal.relist-requires-2-clause-records
relist-requires-2-clause-records c =
    has_moved c.args.keys.now c.requires.keys c.args.graph.now c.relist.new.graph Children c.args.id.now (maybe_data c.args.before.now) (maybe_data c.args.after.now) c.relist.ensures.left c.requires.records

pub relist-requires-2-clause-lists : goal.relist-requires-2-clause-lists
relist-requires-2-clause-lists c =
    let id = c.args.id.now in
    let before = maybe_data c.args.before.now in
    let after = maybe_data c.args.after.now in
    let same = same_moved c.args.keys.now c.requires.keys c.args.graph.now c.relist.new.graph Children id before after c.relist.ensures.left in
    subst (AreLists BoundFrom c.relist.new.graph) (sym same) (lists_unmoved Children BoundFrom id before after c.args.graph.now c.relist.new.graph (records_of c.args.keys.now c.args.graph.now) children_from (c.requires.lists BoundFrom) c.relist.ensures.left)

pub relist-requires-2-clause-there : goal.relist-requires-2-clause-there
relist-requires-2-clause-there c =
    let id = c.args.id.now in
    let same = same_moved c.args.keys.now c.requires.keys c.args.graph.now c.relist.new.graph Children id (maybe_data c.args.before.now) (maybe_data c.args.after.now) c.relist.ensures.left in
    ap (λ m. value_at m id) same ∙ c.requires.there

pub returns-in_err-relist-2-clause-left : goal.returns-in_err-relist-2-clause-left
returns-in_err-relist-2-clause-left c =
    in_turn _ c.args.graph.now c.relist.new.graph c.relist-2.new.graph
    (wider _ _ c.args.graph.now c.relist.new.graph (λ k h. (Children, h)) c.relist.ensures.left)
    (wider _ _ c.relist.new.graph c.relist-2.new.graph (λ k h. (BoundFrom, h)) c.relist-2.ensures.left)

pub relist-requires-3-clause-records : goal.relist-requires-3-clause-records
relist-requires-3-clause-records c =
    let id = c.args.id.now in
    let before = maybe_data c.args.before.now in
    let after = maybe_data c.args.after.now in
    has_moved c.args.keys.now c.requires.keys c.relist.new.graph c.relist-2.new.graph BoundFrom id before after c.relist-2.ensures.left
    (has_moved c.args.keys.now c.requires.keys c.args.graph.now c.relist.new.graph Children id before after c.relist.ensures.left c.requires.records)

pub relist-requires-3-clause-lists : goal.relist-requires-3-clause-lists
relist-requires-3-clause-lists c =
    let id = c.args.id.now in
    let before = maybe_data c.args.before.now in
    let after = maybe_data c.args.after.now in
    let same = same_moved c.args.keys.now c.requires.keys c.args.graph.now c.relist.new.graph Children id before after c.relist.ensures.left in
    let same2 = same_moved c.args.keys.now c.requires.keys c.relist.new.graph c.relist-2.new.graph BoundFrom id before after c.relist-2.ensures.left in
    subst (AreLists BoundTo c.relist-2.new.graph) (sym (same2 ∙ same))
    (lists_unmoved BoundFrom BoundTo id before after c.relist.new.graph c.relist-2.new.graph (records_of c.args.keys.now c.args.graph.now) from_to
    (lists_unmoved Children BoundTo id before after c.args.graph.now c.relist.new.graph (records_of c.args.keys.now c.args.graph.now) children_to (c.requires.lists BoundTo) c.relist.ensures.left) c.relist-2.ensures.left)

pub relist-requires-3-clause-there : goal.relist-requires-3-clause-there
relist-requires-3-clause-there c =
    let id = c.args.id.now in
    let before = maybe_data c.args.before.now in
    let after = maybe_data c.args.after.now in
    let same = same_moved c.args.keys.now c.requires.keys c.args.graph.now c.relist.new.graph Children id before after c.relist.ensures.left in
    let same2 = same_moved c.args.keys.now c.requires.keys c.relist.new.graph c.relist-2.new.graph BoundFrom id before after c.relist-2.ensures.left in
    ap (λ m. value_at m id) (same2 ∙ same) ∙ c.requires.there

pub returns-clause-lists : goal.returns-clause-lists
returns-clause-lists c =
    let id = c.args.id.now in
    let before = maybe_data c.args.before.now in
    let after = maybe_data c.args.after.now in
    let m = set_at (records_of c.args.keys.now c.args.graph.now) id after in
    let same = same_moved c.args.keys.now c.requires.keys c.args.graph.now c.relist.new.graph Children id before after c.relist.ensures.left in
    let same2 = same_moved c.args.keys.now c.requires.keys c.relist.new.graph c.relist-2.new.graph BoundFrom id before after c.relist-2.ensures.left in
    let bound : AreLists BoundFrom c.relist-2.new.graph m = subst (λ (ps : Pairs). AreLists BoundFrom c.relist-2.new.graph (set_at ps id after)) same c.in_ok-relist-2.ensures.lists in
    on_ok c.relist-3.result
    (λ last. each_kind (λ l. AreLists l c.relist-3.new.graph m)
    (lists_unmoved BoundTo Children id before after c.relist-2.new.graph c.relist-3.new.graph m to_children
    (lists_unmoved BoundFrom Children id before after c.relist.new.graph c.relist-2.new.graph m from_children c.in_ok-relist.ensures.lists c.relist-2.ensures.left) c.relist-3.ensures.left)
    (lists_unmoved BoundTo BoundFrom id before after c.relist-2.new.graph c.relist-3.new.graph m to_from bound c.relist-3.ensures.left)
    (subst (λ (ps : Pairs). AreLists BoundTo c.relist-3.new.graph (set_at ps id after)) (same2 ∙ same) last))
    c.relist-3.ensures.lists

pub returns-clause-left : goal.returns-clause-left
returns-clause-left c =
    in_turn _ c.args.graph.now c.relist.new.graph c.relist-3.new.graph
    (wider _ _ c.args.graph.now c.relist.new.graph (λ k h. (Children, h)) c.relist.ensures.left)
    (in_turn _ c.relist.new.graph c.relist-2.new.graph c.relist-3.new.graph
    (wider _ _ c.relist.new.graph c.relist-2.new.graph (λ k h. (BoundFrom, h)) c.relist-2.ensures.left)
    (wider _ _ c.relist-2.new.graph c.relist-3.new.graph (λ k h. (BoundTo, h)) c.relist-3.ensures.left))

pub returns-in_err-relist-clause-left : goal.returns-in_err-relist-clause-left
returns-in_err-relist-clause-left c = wider _ _ c.args.graph.now c.relist.new.graph (λ k h. (Children, h)) c.relist.ensures.left
