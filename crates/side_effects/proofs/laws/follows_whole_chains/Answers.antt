use Rattle.side_effects.proofs.ChainLemmas.{met_anywhere}
use Rattle.side_effects.proofs.laws.follows_whole_chains.Goals as goal

pub returns : goal.returns
returns c = met_anywhere
