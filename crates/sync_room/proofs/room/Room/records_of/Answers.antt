use Rattle.std.proofs.Common.{◌≡◌, [], sym, ap, subst, ◌∙◌}
use Rattle.rooms_val.specs.Data.{map, members_of}
use Rattle.sync_room.specs.Scopes.{is_of_part}
use Rattle.sync_room.specs.Standing.{tree_of}
use Rattle.sync_room.proofs.ChosenLemmas.{Chosen, nothing_left, none_chosen, one_more, all_chosen}
use Rattle.sync_room.proofs.room.Room.records_of.Goals as goal

pub ids-init : goal.ids-init
ids-init c = λ rising.
    none_chosen (is_of_part (tree_of c.args.self.now) c.args.presence) c.args.self.now.history.kept.records.0 c.new-fields.result
    c.into_iter-id-iterator.result.rest.items c.new-fields.ensures (c.into_iter-id-iterator.ensures.into_iter_gives.0 ∙ c.in_ok-id-items.ensures)

pub ids-preserved : goal.ids-preserved
ids-preserved c = λ rising.
    one_more (is_of_part (tree_of c.args.self.now) c.args.presence) c.args.self.now.history.kept.records.0 c.ids.fields rising c.in-Some.id c.next.new.self.rest.items
    c.copy_record.new.fields (subst (Chosen (is_of_part (tree_of c.args.self.now) c.args.presence) c.args.self.now.history.kept.records.0 c.ids.fields) c.in-Some.ensures.steps.0 (c.ids.invariant rising)) c.in_ok-copy_record.ensures

pub returns : goal.returns
returns c = λ rising.
    ap (λ m. map (members_of m)) (all_chosen (is_of_part (tree_of c.args.self.now) c.args.presence) c.args.self.now.history.kept.records.0 c.ids.fields
    (subst (Chosen (is_of_part (tree_of c.args.self.now) c.args.presence) c.args.self.now.history.kept.records.0 c.ids.fields) (nothing_left c.ids.id-iterator.rest.items (sym c.ids.id-iterator.rest.ok.0 ∙ c.in-None.ensures.steps.0)) (c.ids.invariant rising)))
