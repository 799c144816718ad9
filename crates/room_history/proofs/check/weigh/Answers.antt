use Rattle.std.proofs.Common.{◌+◌, sum, map, drop, ap, ◌∙◌, arith}
use Rattle.std.proofs.lemmas.List.{drop_all}
use Rattle.rooms_val.proofs.ListLemmas.{one_off}
use Rattle.rooms_val.specs.View.{data_of}
use Rattle.rooms_val.specs.Weight.{weight}
use Rattle.room_history.proofs.CheckLemmas.{weight_on}
use Rattle.room_history.proofs.check.weigh.Goals as goal

pub records-preserved : goal.records-preserved
records-preserved c =
    let items = c.args.documents.now in
    let x = c.saved-item.result in
    let parts = ap (λ rs. sum (map (λ r. weight (data_of r.record)) rs)) (one_off items c.records.saved-index x c.records-test.true c.saved-item.is) ∙ weight_on x (drop (c.records.saved-index + 1) items) in
    let was = c.records.invariant.1 in
    let low = c.records.invariant.0 in
    (omega (arith), omega (arith, parts, was, low))

pub returns : goal.returns
returns c =
    let none = ap (λ rs. sum (map (λ r. weight (data_of r.record)) rs)) (drop_all c.records.saved-index c.args.documents.now (omega arith)) in
    let was = c.records.invariant.1 in
    let low = c.records.invariant.0 in
    omega (arith, none, was, low)
