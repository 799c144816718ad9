use Rattle.std.proofs.Common.{None, Some, inl, inr, sym, ap, subst, ◌∙◌}
use Rattle.rooms_val.specs.Maps.{set_at}
use Rattle.rooms_val.proofs.MapsLemmas.{without_absent}
use Rattle.rooms_val.specs.View.{data_of}
use Rattle.field_ops.specs.View.{maybe_data}
use Rattle.record_store.specs.Lists.{records_of, AreLists, IsMoved}
use Rattle.record_store.proofs.FrameLemmas.{wider}
use Rattle.record_store.proofs.lists.relist.Goals as goal

pub enlist-requires : goal.enlist-requires
enlist-requires c =
    let m = records_of c.args.keys.now c.args.graph.now in
    record { records = c.requires.records; lists = subst (AreLists c.args.listing c.args.graph.now) (sym (without_absent m c.args.id.now (c.requires.there ∙ ap maybe_data c.in-None.is))) c.requires.lists }

pub returns-in-None-after-2-clause-lists : goal.returns-in-None-after-2-clause-lists
returns-in-None-after-2-clause-lists c =
    let m = records_of c.args.keys.now c.args.graph.now in
    subst (AreLists c.args.listing c.args.graph.now) (sym (ap (λ o. set_at m c.args.id.now (maybe_data o)) c.in-None-after-2.is ∙ without_absent m c.args.id.now (c.requires.there ∙ ap maybe_data c.in-None.is))) c.requires.lists

pub returns-in-None-after-clause-left : goal.returns-in-None-after-clause-left
returns-in-None-after-clause-left c =
    wider _ _ c.args.graph.now c.unlist.new.graph
    (λ k h. subst (λ o. IsMoved c.args.listing c.args.id.now (maybe_data o) (maybe_data c.args.after.now) k) (sym c.in-Some.is)
    (subst (λ o. IsMoved c.args.listing c.args.id.now (Some (data_of c.in-Some.old)) (maybe_data o) k) (sym c.in-None-after.is) (tt, inl h)))
    c.unlist.ensures.left

pub returns-in-Some-after-2-clause-left : goal.returns-in-Some-after-2-clause-left
returns-in-Some-after-2-clause-left c =
    wider _ _ c.args.graph.now c.enlist.new.graph
    (λ k h. subst (λ o. IsMoved c.args.listing c.args.id.now (maybe_data o) (maybe_data c.args.after.now) k) (sym c.in-None.is)
    (subst (λ o. IsMoved c.args.listing c.args.id.now None (maybe_data o) k) (sym c.in-Some-after-2.is) (tt, inr h)))
    c.enlist.ensures.left
