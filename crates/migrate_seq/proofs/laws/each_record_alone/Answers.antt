use Rattle.migrate_steps.proofs.RecordLemmas.{each_alone}
use Rattle.migrate_seq.proofs.laws.each_record_alone.Goals as goal

pub returns : goal.returns
returns c = each_alone
