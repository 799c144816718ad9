use Rattle.clip_content.proofs.AddLemmas.{least_taken}
use Rattle.clip_content.proofs.laws.names_the_least_taken.Goals as goal

pub returns : goal.returns
returns c = least_taken
