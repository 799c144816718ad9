use Rattle.rooms_val.specs.Data.{whole}
use Rattle.rooms_val.proofs.Truths.{any_err}
use Rattle.room_snapshot.proofs.entries.number_in.Goals as goal

pub returns-in_err-number-clause-only : goal.returns-in_err-number-clause-only
returns-in_err-number-clause-only c = any_err c.from_residual.result (λ z is. c.in_err-number.ensures.only (whole z) is)
