use Rattle.wire_msgs.proofs.EventLemmas.{three, not_three}
use Rattle.rooms_val.proofs.RefusalLemmas.{handed_on}
use Rattle.wire_msgs.proofs.events.event_in.Goals as goal

pub returns-then-entries-eq3-clause-refused : goal.returns-then-entries-eq3-clause-refused
returns-then-entries-eq3-clause-refused c = handed_on c.patch_in.result (three c.args.entries.now c.if-entries-eq3.true) c.patch_in.ensures.refused

pub returns-else-entries-eq3-clause-refused : goal.returns-else-entries-eq3-clause-refused
returns-else-entries-eq3-clause-refused c = handed_on c.result_in.result (not_three c.args.entries.now c.if-entries-eq3.false) c.result_in.ensures.refused
