use Rattle.record_store.proofs.FrameLemmas.{set_changes}
use Rattle.record_store.proofs.LeadLemmas.{set_told}
use Rattle.record_store.proofs.lists.set_atom.Goals as goal

pub returns-clause-left : goal.returns-clause-left
returns-clause-left c = set_changes c.args.graph.now c.set.new.self c.args.key c.args.value c.in_ok-set.field-0 c.in_ok-set.ensures.ok

pub returns-clause-told : goal.returns-clause-told
returns-clause-told c = λ since m n before turned below leads. set_told c.args.graph.now c.set.new.self c.args.key c.args.value c.in_ok-set.field-0 c.in_ok-set.ensures.ok below turned since m n before leads
