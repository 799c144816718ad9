use Rattle.std.proofs.Common.{◌-◌}
use Rattle.room_model.specs.Schemas.{WorldSchemas}
use Rattle.room_model.specs.Worlds.{World}
use Rattle.side_effects.specs.declared.fault.EditFault.{EditFault}
use Rattle.shared_board.specs.Rounds.{Tries}
use Rattle.shared_board.specs.Standing.{Stands}
use Rattle.shared_board.proofs.board.Board.try_each.Given as goal

-- so many moves were tried
abbrev pub invariant-numbers : goal.invariant-numbers
invariant-numbers l = (schemas : WorldSchemas EditFault) (state : World) → Stands schemas state l.fn.self → Tries schemas state l.leg l.number l.moved l.self

abbrev pub decreases-numbers : goal.decreases-numbers
decreases-numbers l = l.count - l.number
