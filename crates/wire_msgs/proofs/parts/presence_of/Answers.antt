use Rattle.std.proofs.Common.{subst}
use Rattle.rooms_val.specs.View.{data_of}
use Rattle.field_ops.specs.RecordOps.{IsSoundChange, patch}
use Rattle.field_ops.specs.ViewRecordOps.{change_of}
use Rattle.wire_msgs.proofs.PartLemmas.{op_is, no_presence}
use Rattle.rooms_val.proofs.RefusalLemmas.{passed_on}
use Rattle.wire_msgs.proofs.parts.presence_of.Goals as goal

pub returns-in_err-op-clause-refused : goal.returns-in_err-op-clause-refused
returns-in_err-op-clause-refused c =
    passed_on c.from_residual.result c.in_err-op.field-0.0 c.from_residual.ensures.1 (λ none. none) (no_presence (data_of c.args.val.now) c.in_err-op.field-0.0 c.in_err-op.ensures)

pub returns-in-Patch-clause-found : goal.returns-in-Patch-clause-found
returns-in-Patch-clause-found c = (
  op_is (data_of c.args.val.now) (patch c.in-Patch.diff) c.kind.ensures.sound (rw c.in-Patch.is at c.in_ok-op.ensures),
  subst (λ o. IsSoundChange (change_of o)) c.in-Patch.is c.name.ensures.sound,
)
