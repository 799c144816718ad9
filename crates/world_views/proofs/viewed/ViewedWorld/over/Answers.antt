use Rattle.world_views.proofs.EventLemmas.{nothing_keeps}
use Rattle.world_views.proofs.viewed.ViewedWorld.over.Goals as goal

pub returns : goal.returns
returns c schemas room stands none = nothing_keeps schemas room c.args.world stands none
