use Rattle.std.proofs.Common.{◌≡◌, None, sym, ap, ◌∙◌, map, take}
use Rattle.std.proofs.lemmas.List.{take_all}
use Rattle.rooms_val.specs.Maps.{keys_of}
use Rattle.rooms_val.proofs.MapsLemmas.{keys_of-seen}
use Rattle.field_ops.specs.ViewRecordOps.{change_of}
use Rattle.doc_model.specs.Documents.{fold_raw}
use Rattle.side_effects.proofs.TopLemmas.{tops_after, tops_along}
use Rattle.side_effects.proofs.placing.tops_of.Goals as goal

pub returns : goal.returns
returns g c = λ parent.
    let m = g.D.DocStore.records c.args.store.now in
    let after = fold_raw m c.args.diff.now in
    let items = c.as_slice-id-items.result.now in
    let whole : take c.named.id-index items ≡ items = take_all c.named.id-index items c.named-test.false in
    let ids : map (λ e. e.0) (take c.named.id-index items) ≡ keys_of c.args.diff.now =
    ap (map (λ e. e.0)) whole ∙ sym (keys_of-seen change_of items) ∙ ap keys_of c.as_slice-id-items.ensures.pairs in
    c.named.invariant parent
    ∙ ap (λ ks. tops_along after parent (tops_along after parent None (keys_of m)) ks) ids
    ∙ tops_after m c.args.diff.now parent c.tell_store.ensures c.tell_rising.ensures
