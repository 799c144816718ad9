use Rattle.std.proofs.Common.{◌≡◌, sym, subst, ◌∙◌}
use Rattle.tl_rules.specs.Answers.{record_in}
use Rattle.field_index.specs.Index.{with_record}
use Rattle.store_query.specs.Asking.{IsIndexOf}
use Rattle.record_store.specs.Tells.{written_under}
use Rattle.store_query.proofs.RefreshingLemmas.{set_follows}
use Rattle.rooms_val.proofs.Truths.{on_ok_so}
use Rattle.store_query.proofs.refreshing.follow.Goals as goal

pub returns-in-Rec-clause-ok : goal.returns-in-Rec-clause-ok
returns-in-Rec-clause-ok c =
    let old = c.args.index.now in
    let new = c.set.new.self in
    let v = c.args.value.now in
    on_ok_so c.set.result _ _ (λ is m rising holds.
    subst (λ k. IsIndexOf (written_under m k v) new) (sym c.in-Rec.is)
    (set_follows m old new c.in-Rec.id (record_in v) (is ∙ (λ i. record old { values = with_record old.type_name old.field old.values (c.as_str.ensures.bytes i) (c.record.ensures i) })) rising holds)) c.set.ensures.ok
