use Rattle.wire_text.proofs.StreamLemmas.{pieces_come_back}
use Rattle.wire_text.proofs.laws.pieces_come_back.Goals as goal

pub returns : goal.returns
returns c = pieces_come_back
