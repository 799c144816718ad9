use Rattle.std.proofs.Common.{ℕ, List, ap, length, arith}
use Rattle.std.proofs.lemmas.List.{length-map}
use Rattle.field_ops.specs.RecordOps.{RecordOpTree}
use Rattle.side_effects.proofs.ChainLemmas.{length-fold_raw}
use Rattle.field_ops.specs.ViewRecordOps.{change_of}
use Rattle.side_effects.proofs.chains.steps_up.Goals as goal

pub returns : goal.returns
returns g c =
    let m = g.D.DocStore.records c.args.store.now in
    let most = length-fold_raw c.args.diff.now m in
    let held = ap length c.in_ok-ids.ensures in
    let keys = length-map m (λ e. e.0) in
    let named = ap length c.as_slice-named.ensures.pairs in
    let shown = length-map {B = List ℕ × RecordOpTree} c.as_slice-named.result.now (λ e. (e.0, change_of e.1)) in
    omega arith
