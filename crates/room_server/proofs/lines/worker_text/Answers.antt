use Rattle.std.proofs.Common.{append_assoc}
use Rattle.room_server.proofs.lines.worker_text.Goals as goal

pub returns : goal.returns
returns c = rw c.into_bytes.ensures.value (rw c.in_ok-line.ensures.ok (simp append_assoc))
