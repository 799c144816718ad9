use Rattle.std.proofs.Common.{Err, ap}
use Rattle.field_ops.proofs.ReadingLemmas.{diff_found, diff_refused}
use Rattle.field_ops.proofs.wire.read_diff.Goals as goal

pub returns-in-Ok : goal.returns-in-Ok
returns-in-Ok c = diff_found _ _ c.in-Ok.ensures.found c.len.ensures.sound

pub returns-in-Err : goal.returns-in-Err
returns-in-Err c = diff_refused _ c.in-Err.fault c.kind.ensures.sound (λ is. c.in-Err.ensures.only (ap Err is))
