use Rattle.rooms_val.proofs.Truths.{any_err}
use Rattle.rec_format.proofs.entries.version_in.Goals as goal

pub returns-in_err-version-clause-only : goal.returns-in_err-version-clause-only
returns-in_err-version-clause-only c = any_err c.from_residual.result (λ v within is. c.in_err-version.ensures.only v is)
