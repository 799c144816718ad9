use Rattle.std.proofs.Common.{arith}
use Rattle.std.proofs.lemmas.Grind.{common_steps}
use Rattle.rooms_val.proofs.RefusalLemmas.{handed_on}
use Rattle.wire_msgs.proofs.client.push_of.Goals as goal

pub returns-clause-refused : goal.returns-clause-refused
returns-clause-refused c =
    handed_on c.push_with.result (λ none clock diff presence proper is. none clock diff presence proper (grind (arith, common_steps))) c.push_with.ensures.refused
