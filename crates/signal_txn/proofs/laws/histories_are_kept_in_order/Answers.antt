use Rattle.signal_txn.proofs.HistoryLemmas.{keeps_in_turn}
use Rattle.signal_txn.proofs.laws.histories_are_kept_in_order.Goals as goal

pub returns : goal.returns
returns g c = λ history journal epoch keeps. keeps_in_turn history journal.levels journal.ring epoch keeps
