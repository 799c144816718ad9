-- For which worlds of the definitions a board stands: a room, its clients and what is on the way belong together in it.
use Rattle.std.specs.Prelude.{◌≡◌, length}
use Rattle.room_model.specs.Schemas.{WorldSchemas}
use Rattle.room_model.specs.Worlds as model
use Rattle.side_effects.specs.declared.fault.EditFault.{EditFault}
use Rattle.sync_world.specs.Standing as world_of
use Rattle.shared_board.specs.declared.board.Board.{Board}

-- a board whose memory never ran out stands for a world
pub record Stands (schemas : WorldSchemas EditFault) (state : model.World) (board : Board) : Type 0 where
  -- the room, the clients and what is on the way are those of the world
  pub world : world_of.Stands schemas state board.world
  -- for each connection that was ever made there is a channel
  pub entered : board.entered ≡ length state.channels
