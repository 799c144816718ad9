use Rattle.room_model.specs.Schemas.{WorldSchemas}
use Rattle.room_model.specs.Worlds.{World}
use Rattle.side_effects.specs.declared.fault.EditFault.{EditFault}
use Rattle.shared_board.specs.Moving.{Reaches}
use Rattle.shared_board.specs.Standing.{Stands}
use Rattle.shared_board.proofs.board.Board.settle.Given as goal

-- the board came by moves alone to where it is
abbrev pub invariant-passes : goal.invariant-passes
invariant-passes l = (schemas : WorldSchemas EditFault) (state : World) → Stands schemas state l.fn.self → Reaches schemas state l.self
