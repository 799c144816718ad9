use Rattle.std.proofs.Common.{Some, inl, inr, sym, subst}
use Rattle.rooms_val.specs.Data.{Pairs}
use Rattle.rooms_val.specs.Maps.{with_key, without_key}
use Rattle.rooms_val.specs.View.{data_of}
use Rattle.record_store.specs.Lists.{atoms_of, records_of, AreLists}
use Rattle.record_store.proofs.FrameLemmas.{in_turn, wider, on_ok}
use Rattle.record_store.proofs.ListLemmas.{unmoved, has_still, records_apart, same_after, not_alike}
use Rattle.record_store.proofs.RecordLemmas.{rising-records}
use Rattle.record_store.proofs.lists.move_id.Goals as goal

pub returns-then-stands_alike-clause-lists : goal.returns-then-stands_alike-clause-lists
returns-then-stands_alike-clause-lists c =
    unmoved c.args.listing (records_of c.args.keys.now c.args.graph.now) c.args.id.now (data_of c.args.before.now) (rising-records c.args.keys.now (atoms_of c.args.graph.now))
    c.args.graph.now (data_of c.args.after.now) c.requires.lists c.requires.there (c.stands_alike.ensures.0 c.if-stands_alike.true).owner (c.stands_alike.ensures.0 c.if-stands_alike.true).index

pub returns-in_err-unlist-clause-left : goal.returns-in_err-unlist-clause-left
returns-in_err-unlist-clause-left c = wider _ _ c.args.graph.now c.unlist.new.graph (λ k h. (not_alike _ c.stands_alike.ensures.1 c.if-stands_alike.false, inl h)) c.unlist.ensures.left

pub enlist-requires : goal.enlist-requires
enlist-requires c =
    let same = same_after c.args.keys.now c.requires.keys c.args.graph.now c.unlist.new.graph _ (λ q h. records_apart c.args.listing c.args.id.now q (Some (data_of c.args.before.now)) h) c.unlist.ensures.left in
    record {
      records = has_still _ c.args.graph.now c.unlist.new.graph (records_of c.args.keys.now c.args.graph.now) _ (λ q h. records_apart c.args.listing c.args.id.now q (Some (data_of c.args.before.now)) h) c.unlist.ensures.left same c.requires.records;
      lists = subst (λ (m : Pairs). AreLists c.args.listing c.unlist.new.graph (without_key m c.args.id.now)) (sym same) c.in_ok-unlist.ensures.lists;
    }

pub returns-clause-lists : goal.returns-clause-lists
returns-clause-lists c =
    let same = same_after c.args.keys.now c.requires.keys c.args.graph.now c.unlist.new.graph _ (λ q h. records_apart c.args.listing c.args.id.now q (Some (data_of c.args.before.now)) h) c.unlist.ensures.left in
    on_ok c.enlist.result (subst (λ (m : Pairs). AreLists c.args.listing c.enlist.new.graph (with_key m c.args.id.now (data_of c.args.after.now))) same) c.enlist.ensures.lists

pub returns-clause-left : goal.returns-clause-left
returns-clause-left c =
    in_turn _ c.args.graph.now c.unlist.new.graph c.enlist.new.graph
    (wider _ _ c.args.graph.now c.unlist.new.graph (λ k h. (not_alike _ c.stands_alike.ensures.1 c.if-stands_alike.false, inl h)) c.unlist.ensures.left)
    (wider _ _ c.unlist.new.graph c.enlist.new.graph (λ k h. (not_alike _ c.stands_alike.ensures.1 c.if-stands_alike.false, inr h)) c.enlist.ensures.left)
