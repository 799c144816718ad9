use Rattle.std.proofs.Common.{arith}
use Rattle.links_core.proofs.ChangeLemmas.{sound}
use Rattle.links_core.proofs.links.Links.first.Goals as goal

pub returns-clause-sound : goal.returns-clause-sound
returns-clause-sound c = rw (← c.self.view_is) (sound _ _ _ _ c.self.invariant (omega arith))
