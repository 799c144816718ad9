use Rattle.signal_values.specs.Kept.{IsFreshKey}
use Rattle.rooms_val.proofs.Truths.{on_ok_anyway}
use Rattle.signal_values.proofs.values.Values.copied.Goals as goal

pub returns-clause-fresh : goal.returns-clause-fresh
returns-clause-fresh g c =
    let v = c.in_ok-i.ensures.value in
    on_ok_anyway c.copy_value.result (IsFreshKey c.compute.new.self.rows c.compute.new.self.fresh c.args.key.now) (c.in_ok-i.i, v.row, v.at, v.is, v.ready)
