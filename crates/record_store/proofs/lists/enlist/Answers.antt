use Rattle.std.proofs.Common.{◌≡◌, sym, ap, subst, ◌∙◌}
use Rattle.std.specs.Prelude.{insert}
use Rattle.rooms_val.specs.Maps.{without_key}
use Rattle.rooms_val.specs.View.{data_of}
use Rattle.tl_rules.specs.declared.key.TlKey.{TlKey}
use Rattle.tl_rules.specs.declared.value.TlValue.TheVariants as value
use Rattle.tl_rules.specs.Listings.{key_of, listed}
use Rattle.record_store.specs.Lists.{atoms_of, records_of, ChangesOnly}
use Rattle.record_store.proofs.FrameLemmas.{wider, on_ok}
use Rattle.record_store.proofs.ListLemmas.{ids_are, place_to_join, enlisted, enlisted_nowhere}
use Rattle.record_store.proofs.RecordLemmas.{rising-records}
use Rattle.record_store.proofs.lists.enlist.Goals as goal

pub returns-in_default-clause-lists : goal.returns-in_default-clause-lists
returns-in_default-clause-lists c =
    let m = records_of c.args.keys.now c.args.graph.now in
    enlisted_nowhere c.args.listing m c.args.id.now (data_of c.args.stored.now) (rising-records c.args.keys.now (atoms_of c.args.graph.now)) c.args.graph.now c.requires.lists (sym c.in_default.ensures)

pub with_id-requires : goal.with_id-requires
with_id-requires c = c.in_ok-place.ensures.bound

pub returns-clause-lists : goal.returns-clause-lists
returns-clause-lists c =
    let l = c.args.listing in
    let m = records_of c.args.keys.now c.args.graph.now in
    let id = c.args.id.now in
    let d = data_of c.args.stored.now in
    let owner = c.in-Some.owner.now in
    let key = c.in_ok-key.key in
    let n = c.in_ok-place.place in
    let rising = rising-records c.args.keys.now (atoms_of c.args.graph.now) in
    let ids : c.in_ok-ids.ids ≡ listed l (without_key m id) owner =
    ids_are l c.args.graph.now (without_key m id) owner key c.in_ok-ids.ids c.requires.lists c.in_ok-key.ensures c.in_ok-ids.ensures in
    let point = place_to_join l m id d rising owner c.index.result.now c.in_ok-ids.ids n c.index.ensures ids (c.in_ok-place.ensures.place m c.requires.records) in
    let change : ChangesOnly (λ k. k ≡ key_of l owner) c.args.graph.now c.set_atom.new.graph =
    subst (λ (x : TlKey). ChangesOnly (λ k. k ≡ x) c.args.graph.now c.set_atom.new.graph) c.in_ok-key.ensures c.set_atom.ensures.left in
    on_ok c.set_atom.result
    (λ here. enlisted l m id d rising c.args.graph.now c.set_atom.new.graph owner n c.requires.lists (sym c.in-Some.ensures) point change
    (ap (atoms_of c.set_atom.new.graph) (sym c.in_ok-key.ensures) ∙ here ∙ ap value.Ids (c.in_ok-more.ensures ∙ ap (λ xs. insert xs n id) ids)))
    c.set_atom.ensures.ok

pub returns-clause-left : goal.returns-clause-left
returns-clause-left c =
    wider (λ k. k ≡ c.in_ok-key.key) _ c.args.graph.now c.set_atom.new.graph (λ k e. (c.in-Some.owner.now, sym c.in-Some.ensures, e ∙ c.in_ok-key.ensures)) c.set_atom.ensures.left
