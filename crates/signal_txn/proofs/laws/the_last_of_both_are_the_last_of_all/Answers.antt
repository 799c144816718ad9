use Rattle.signal_txn.proofs.KeptLemmas.{kept_followed}
use Rattle.signal_txn.proofs.laws.the_last_of_both_are_the_last_of_all.Goals as goal

pub returns : goal.returns
returns g c = λ writes later middle high first then_. kept_followed writes later middle high first then_
