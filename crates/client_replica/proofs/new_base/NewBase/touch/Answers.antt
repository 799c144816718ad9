use Rattle.std.proofs.Common.{◌+◌, ◌||◌, length, drop, sym, ap, subst, ◌∙◌, arith}
use Rattle.std.specs.Prelude.{is_some}
use Rattle.rooms_val.specs.Maps.{value_at}
use Rattle.rooms_val.proofs.ListLemmas.{one_off}
use Rattle.field_ops.specs.ViewRecordOps.{change_of}
use Rattle.client_replica.specs.NewBases.{laid, IsLaid}
use Rattle.client_replica.proofs.StashLemmas.{few-kept, exact-end}
use Rattle.rooms_val.proofs.Truths.{or_left, or_right}
use Rattle.client_replica.proofs.NewBaseLemmas.{laid-kept, held-next}
use Rattle.client_replica.proofs.new_base.NewBase.touch.Goals as goal

pub ids-preserved : goal.ids-preserved
ids-preserved g c =
    let items = c.as_slice-id-items.result.now in
    let i = c.ids.id-index in
    let x = c.ids-item.result in
    let left = drop (i + 1) items in
    let parts = one_off items i x c.ids-test.true c.ids-item.is in
    let m = g.D.DocStore.records c.args.store.now in
    let stash = c.args.stash.now in
    let old = c.ids.self.changes in
    let r = laid old stash m x.0 in
    let touched = c.in_ok-touch.ensures in
    record {
      document = λ base lies. subst (IsLaid base m stash) (sym touched) (laid-kept base m stash old x.0 (c.ids.invariant.document base lies));
      named = λ q. ap (λ s. is_some (value_at s q) || is_some (value_at left q)) touched ∙ held-next old r x left q
          ∙ sym (ap (λ l. is_some (value_at old q) || is_some (value_at l q)) parts) ∙ c.ids.invariant.named q;
      few = let grew = few-kept old x.0 r c.tell_rising.ensures in let is = ap length touched in let was = c.ids.invariant.few in omega arith;
      others = c.ids.invariant.others;
    }

pub returns-clause-named : goal.returns-clause-named
returns-clause-named g c = λ q is.
    let before = c.args.self.now.changes in
    exact-end change_of before c.ids.self.changes c.as_slice-id-items.result.now c.args.diff.now c.ids.id-index (omega arith) c.as_slice-id-items.ensures.pairs q (c.ids.invariant.named q)
    ∙ or_right (is_some (value_at before q)) (is_some (value_at c.args.diff.now q)) is

pub returns-clause-more : goal.returns-clause-more
returns-clause-more g c = λ q is.
    let before = c.args.self.now.changes in
    exact-end change_of before c.ids.self.changes c.as_slice-id-items.result.now c.args.diff.now c.ids.id-index (omega arith) c.as_slice-id-items.ensures.pairs q (c.ids.invariant.named q)
    ∙ or_left (is_some (value_at before q)) (is_some (value_at c.args.diff.now q)) is
