use Rattle.wire_text.proofs.StreamLemmas.{given_stands}
use Rattle.wire_text.proofs.laws.what_is_given_stands.Goals as goal

pub returns : goal.returns
returns c = given_stands
