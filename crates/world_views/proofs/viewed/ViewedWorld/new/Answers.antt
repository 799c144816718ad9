use Rattle.room_model.specs.Rooms.{new_room}
use Rattle.room_model.specs.declared.limits.TheConstants.{LAST_CLOCK}
use Rattle.world_views.proofs.viewed.ViewedWorld.new.Goals as goal

pub returns : goal.returns
returns c = let stands = c.in_ok-new.ensures.stands in (stands.0, stands.1, c.over.ensures stands.0 (new_room LAST_CLOCK) stands.2 c.in_ok-new.ensures.stores)
