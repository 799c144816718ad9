use Rattle.std.proofs.Common.{append_assoc}
use Rattle.make_job.proofs.make.summary.Goals as goal

pub returns : goal.returns
returns c = rw c.into_bytes.ensures.value (rw c.in_ok-line.ensures.ok (simp append_assoc))
