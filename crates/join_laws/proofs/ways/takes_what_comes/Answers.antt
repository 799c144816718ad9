use Rattle.join_laws.proofs.WayLemmas.{all_taken}
use Rattle.join_laws.proofs.ways.takes_what_comes.Goals as goal

pub returns : goal.returns
returns c schemas version room steps last events number lawful legal serves = all_taken schemas version lawful last events number legal room steps serves
