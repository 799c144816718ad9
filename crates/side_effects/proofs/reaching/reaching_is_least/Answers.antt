use Rattle.side_effects.proofs.ReachingLemmas.{least}
use Rattle.side_effects.proofs.reaching.reaching_is_least.Goals as goal

pub returns : goal.returns
returns c = least
