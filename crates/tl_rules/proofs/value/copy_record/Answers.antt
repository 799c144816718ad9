use Rattle.tl_rules.proofs.BoxLemmas.{copy_same}
use Rattle.tl_rules.proofs.value.copy_record.Goals as goal

pub returns : goal.returns
returns c = copy_same c.copy.result c.args.val.now c.copy.ensures
