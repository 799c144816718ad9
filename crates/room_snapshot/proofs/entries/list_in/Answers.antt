use Rattle.rooms_val.specs.Data.{list, items_of}
use Rattle.rooms_val.proofs.Truths.{any_err}
use Rattle.room_snapshot.proofs.entries.list_in.Goals as goal

pub returns-in_err-items-clause-only : goal.returns-in_err-items-clause-only
returns-in_err-items-clause-only c = any_err c.from_residual.result (λ ds is. c.in_err-items.ensures.only (list (items_of ds)) is)
