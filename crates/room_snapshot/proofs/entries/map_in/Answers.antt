use Rattle.rooms_val.specs.Data.{map, members_of}
use Rattle.rooms_val.proofs.Truths.{any_err}
use Rattle.room_snapshot.proofs.entries.map_in.Goals as goal

pub returns-in_err-fields-clause-only : goal.returns-in_err-fields-clause-only
returns-in_err-fields-clause-only c = any_err c.from_residual.result (λ ps is. c.in_err-fields.ensures.only (map (members_of ps)) is)
