use Rattle.side_effects.proofs.LeastLemmas.{found_first}
use Rattle.side_effects.proofs.laws.names_the_least_id.Goals as goal

pub returns : goal.returns
returns c = found_first
