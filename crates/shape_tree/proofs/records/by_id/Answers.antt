use Rattle.std.proofs.Common.{sym, ap, ◌∙◌}
use Rattle.rooms_val.specs.View.{data_of}
use Rattle.shape_tree.specs.Records.{with_record}
use Rattle.shape_tree.proofs.RecordsLemmas.{by_id_more}
use Rattle.shape_tree.proofs.records.by_id.Goals as goal

pub vals-preserved : goal.vals-preserved
vals-preserved c =
    c.in_ok-add.ensures ∙ ap (λ m. with_record m (data_of c.val-item.result)) c.vals.invariant ∙ sym (by_id_more c.args.vals.now c.vals.val-index c.val-item.result c.vals-test.true c.val-item.is)
