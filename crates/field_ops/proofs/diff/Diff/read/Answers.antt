use Rattle.std.proofs.Common.{sym, ap, ◌∙◌}
use Rattle.rooms_val.specs.View.{data_of}
use Rattle.field_ops.specs.WireRecordOps.{diff_pairs}
use Rattle.field_ops.proofs.WireLemmas.{same_map}
use Rattle.field_ops.proofs.diff.Diff.read.Goals as goal

pub returns-in_err-read_fields-in-Map-clause-only : goal.returns-in_err-read_fields-in-Map-clause-only
returns-in_err-read_fields-in-Map-clause-only c wrong cs sound is =
    c.in_err-read_fields-in-Map.ensures.only (let from = rw wrong at c.from_residual.ensures.1 in cc) cs sound (same_map c.in-Map.fields (diff_pairs cs) (sym (ap data_of c.in-Map.is) ∙ is))
