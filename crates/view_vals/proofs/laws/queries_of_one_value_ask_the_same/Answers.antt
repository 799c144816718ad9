use Rattle.view_vals.proofs.AskingLemmas.{ask_the_same}
use Rattle.view_vals.proofs.laws.queries_of_one_value_ask_the_same.Goals as goal

pub returns : goal.returns
returns c = ask_the_same
