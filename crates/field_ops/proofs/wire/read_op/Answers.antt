use Rattle.std.proofs.Common.{Err, ap}
use Rattle.field_ops.proofs.ReadingLemmas.{op_found, op_refused}
use Rattle.field_ops.proofs.wire.read_op.Goals as goal

pub returns-in-Ok : goal.returns-in-Ok
returns-in-Ok c = op_found _ _ c.in-Ok.ensures.found c.name.ensures.sound

pub returns-in-Err : goal.returns-in-Err
returns-in-Err c = op_refused _ c.in-Err.fault c.kind.ensures.sound (λ is. c.in-Err.ensures.only (ap Err is))
