use Rattle.rooms_val.specs.Data.{text}
use Rattle.rooms_val.proofs.Truths.{any_err}
use Rattle.wire_msgs.proofs.entries.text_in.Goals as goal

pub returns-in_err-text-clause-only : goal.returns-in_err-text-clause-only
returns-in_err-text-clause-only c = any_err c.from_residual.result (λ t is. c.in_err-text.ensures.only (text t) is)
