use Rattle.std.proofs.Common.{◌≡◌, ap, sym, subst, ◌∙◌, take, arith}
use Rattle.std.proofs.lemmas.List.Sums.{fold_more}
use Rattle.store_query.specs.Asking.{IsIndexOf}
use Rattle.record_store.specs.Tells.{written, written_all}
use Rattle.store_query.proofs.RefreshingLemmas.{keeps_through, rising-written_all}
use Rattle.store_query.proofs.refreshing.follow_writes.Goals as goal

pub writes-preserved : goal.writes-preserved
writes-preserved c = record {
  field = keeps_through c.args.index.now c.writes.index c.follow.new.index c.writes.invariant.field c.in_ok-follow.ensures.field;
  holds = λ m rising holds.
      let done = written_all m (take c.writes.key-index c.args.writes.now) in
      let more = fold_more written m c.args.writes.now c.writes.key-index c.writes-item.result (omega arith) in
      subst (λ r. IsIndexOf r c.follow.new.index) (ap (written done) c.writes-item.is ∙ sym more)
      (c.in_ok-follow.ensures.ok done (rising-written_all (take c.writes.key-index c.args.writes.now) m rising) (c.writes.invariant.holds m rising holds));
}
