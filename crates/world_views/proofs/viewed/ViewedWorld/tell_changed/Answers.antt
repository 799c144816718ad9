use Rattle.std.proofs.Common.{subst}
use Rattle.world_views.specs.Standing.{After}
use Rattle.world_views.proofs.EventLemmas.{still_told}
use Rattle.world_views.proofs.viewed.ViewedWorld.tell_changed.Goals as goal

pub returns-in-None : goal.returns-in-None
returns-in-None g c = λ schemas viewed after.
    still_told schemas viewed c.args.self.now.world c.args.lines.items (subst (λ o. After schemas o viewed c.args.self.now.world) c.in-None.is after)
