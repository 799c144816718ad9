use Rattle.std.proofs.Common.{◌∙◌, ◌+◌, ◌-◌, ◌/◌, sym, arith}
use Rattle.tl_rules.specs.Listings.{is_before}
use Rattle.record_store.specs.Lists.{place_at}
use Rattle.record_store.proofs.PlaceLemmas.{goes_up, goes_down}
use Rattle.record_store.proofs.lists.place_among.Goals as goal

pub halves-preserved-then-branch : goal.halves-preserved-then-branch
halves-preserved-then-branch c =
    let tested_ = c.in_ok-is_before_at.ensures in
    record {
      order = omega arith;
      within = omega (arith, c.halves.invariant.within);
      between = λ m has.
          goes_up (is_before c.args.listing m (place_at c.args.index.now c.args.id.now)) c.args.ids.now c.halves.low c.halves.high (c.halves.invariant.between m has)
          (c.halves.low + (c.halves.high - c.halves.low) / 2) tested_.0 tested_.1 (omega arith) (omega arith) (sym c.if-branch.true ∙ tested_.2 m has);
    }

pub halves-preserved : goal.halves-preserved
halves-preserved c =
    let tested_ = c.in_ok-is_before_at.ensures in
    record {
      order = omega arith;
      within = omega (arith, c.halves.invariant.within);
      between = λ m has.
          goes_down (is_before c.args.listing m (place_at c.args.index.now c.args.id.now)) c.args.ids.now c.halves.low c.halves.high (c.halves.invariant.between m has)
          (c.halves.low + (c.halves.high - c.halves.low) / 2) tested_.0 tested_.1 (omega arith) (omega arith) (sym c.if-branch.false ∙ tested_.2 m has);
    }

pub halves-init : goal.halves-init
halves-init c =
    let low = c.in_ok-low.ensures in
    let high = c.in_ok-high.ensures in
    let order = low.order in
    let more = high.order in
    record {
      order = omega (arith, order, more);
      within = high.within;
      between = λ m has. record { order = omega (arith, order, more); within = high.within; before = low.before m has; after = high.behind m has };
    }
